pub mod Sets
pub mod Twice
pub mod Kept
