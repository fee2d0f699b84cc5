pub mod Exact
pub mod Millionths
pub mod Point
pub mod Rounding
pub mod Sizes
pub mod Ways
