pub mod Turn
pub mod Placement
