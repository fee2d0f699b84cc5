pub mod Few
pub mod Gathered
