pub mod Tools
pub mod Summarised
