pub mod Far
pub mod Fits
