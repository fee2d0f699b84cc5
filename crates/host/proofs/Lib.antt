pub mod Apart
pub mod Mended
pub mod One
