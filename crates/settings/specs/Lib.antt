pub mod Header
pub mod Repeats
pub mod Transformations
