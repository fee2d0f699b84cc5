pub mod Added
pub mod Apertures
pub mod Macros
