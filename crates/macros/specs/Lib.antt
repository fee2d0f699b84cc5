pub mod Given
pub mod Pen
pub mod Says
pub mod Work
