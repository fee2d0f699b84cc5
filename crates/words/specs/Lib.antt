pub mod Newer
pub mod Old
pub mod Words
