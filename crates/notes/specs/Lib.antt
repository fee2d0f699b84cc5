pub mod Notes
pub mod Spans
pub mod Designators
pub mod Functions
pub mod Means
