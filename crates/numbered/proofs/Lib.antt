pub mod Choices
pub mod Mends
pub mod Places
