pub mod Blocks
pub mod Expression
pub mod Macro
