pub mod Coordinates
pub mod Operations
