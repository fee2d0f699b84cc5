pub mod Outlines
pub mod Regions
