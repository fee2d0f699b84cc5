pub mod Searched
pub mod Located
pub mod Descent
pub mod Slots
pub mod Answers
