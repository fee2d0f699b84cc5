pub mod Answers
pub mod Laws
pub mod Mends
pub mod Outcome
pub mod Steps
