pub mod Levels
pub mod Around
pub mod Outside
pub mod Found
pub mod Records
pub mod AsRead
pub mod Apertures
pub mod Macros
