pub mod Graphics
pub mod Level
pub mod Orientation
