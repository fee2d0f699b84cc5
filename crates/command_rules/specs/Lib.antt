pub mod Bounds
pub mod Rules
pub mod Settings
