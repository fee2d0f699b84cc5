pub mod Tools
pub mod Knowing
pub mod Drawing
pub mod Steps
pub mod Plain
pub mod Records
pub mod Summarised
