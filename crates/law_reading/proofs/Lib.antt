pub mod SmallFiles
pub mod Outcomes
pub mod Rules
