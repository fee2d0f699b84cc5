pub mod Held
pub mod Counts
