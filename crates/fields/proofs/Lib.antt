pub mod Ahead
pub mod Macros
pub mod Opened
