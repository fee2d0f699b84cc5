pub mod Formed
pub mod Sound
pub mod Tree
pub mod Understood
pub mod Unworkable
pub mod Worth
pub mod Written
