pub mod State
pub mod Apertures
pub mod Levels
pub mod Steps
pub mod Reading
