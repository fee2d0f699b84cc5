pub mod Counts
pub mod Faults
pub mod Order
