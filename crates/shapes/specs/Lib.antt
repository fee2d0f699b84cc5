pub mod Links
pub mod Primitives
pub mod Shapes
pub mod Runs
