pub mod Placement
pub mod Sheeted
