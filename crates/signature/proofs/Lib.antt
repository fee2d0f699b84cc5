pub mod Examples
pub mod Judged
pub mod Notes
pub mod Short
pub mod Walking
pub mod Rules
