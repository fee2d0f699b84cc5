pub mod Walk
pub mod Kept
pub mod Rows
pub mod Listed
pub mod Blocks
pub mod Answers
pub mod Totals
