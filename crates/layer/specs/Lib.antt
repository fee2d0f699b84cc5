pub mod Made
pub mod Attributes
pub mod Parts
pub mod Work
pub mod Said
