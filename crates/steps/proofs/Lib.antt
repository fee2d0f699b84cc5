pub mod Arms
pub mod Coded
pub mod Strokes
