pub mod Blocks
pub mod Definitions
pub mod Parameters
