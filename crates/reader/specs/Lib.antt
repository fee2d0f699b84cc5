pub mod Leaves
pub mod Reads
pub mod Short
