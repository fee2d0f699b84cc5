pub mod Looking
pub mod Answers
pub mod Writing
pub mod Starting
pub mod Addressed
pub mod Again
