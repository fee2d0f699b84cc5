pub mod Chosen
pub mod Worked
pub mod Lends
