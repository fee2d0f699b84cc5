pub mod Few
pub mod Gathered
pub mod Walked
