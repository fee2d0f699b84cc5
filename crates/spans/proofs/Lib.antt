pub mod Order
pub mod Spans
