pub mod Few
pub mod Tokens
