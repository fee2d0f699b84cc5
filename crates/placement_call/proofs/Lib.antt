pub mod Sheets
pub mod Layers
pub mod Answers
