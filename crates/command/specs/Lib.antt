pub mod Flaws
pub mod Numbers
pub mod Rounded
pub mod Span
