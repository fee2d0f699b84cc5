pub mod Chain
pub mod Seen
pub mod Sizes
pub mod Steps
pub mod Told
