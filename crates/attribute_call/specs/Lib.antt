pub mod Sayings
pub mod Attribute
pub mod Pass
