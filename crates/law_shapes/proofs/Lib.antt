pub mod Kept
pub mod Cuts
pub mod Led
pub mod Low
pub mod Steps
pub mod Stays
pub mod Judged
pub mod Exposed
