pub mod Cutting
pub mod Leading
pub mod Stores
pub mod Tests
pub mod Answers
pub mod Slots
pub mod Sound
pub mod Wholes
