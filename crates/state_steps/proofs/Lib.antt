pub mod Keeps
pub mod Steps
pub mod Sets
