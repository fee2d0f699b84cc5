pub mod Commands
pub mod Law
pub mod Stands
pub mod Steps
