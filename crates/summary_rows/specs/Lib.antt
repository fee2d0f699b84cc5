pub mod Rows
pub mod Summed
