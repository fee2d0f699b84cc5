pub mod Notes
pub mod Fields
pub mod Designators
