pub mod Turning
pub mod Counting
pub mod Clearing
pub mod Settling
