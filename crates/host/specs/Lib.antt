pub mod Mends
pub mod Reads
pub mod Shapes
pub mod Widths
