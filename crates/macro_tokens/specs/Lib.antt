pub mod LineEnds
pub mod Tokens
pub mod Words
