pub mod Parts
pub mod Strokes
pub mod Lent
pub mod Levels
pub mod Tables
pub mod Around
pub mod Contour
pub mod Knows
