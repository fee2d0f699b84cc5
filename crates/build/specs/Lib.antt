pub mod Stack
pub mod Entries
pub mod Builder
pub mod Counted
pub mod Closed
