pub mod Words
pub mod Mains
pub mod Pins
