pub mod Kept
pub mod Walk
pub mod Listed
pub mod Blocks
pub mod Answers
