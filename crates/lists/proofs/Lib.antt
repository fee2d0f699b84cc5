pub mod Answers
pub mod Upto
pub mod Joined
