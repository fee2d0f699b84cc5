pub mod Sheeting
pub mod Outcome
pub mod Short
