pub mod Format
pub mod Raised
pub mod Texts
pub mod Values
