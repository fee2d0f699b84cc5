pub mod Seek
pub mod Layers
pub mod More
pub mod NameKeys
