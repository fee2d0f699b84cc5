pub mod Stepped
pub mod Knowing
