pub mod Figures
pub mod Exposes
