pub mod Agree
pub mod Free
pub mod Adding
pub mod Numbers
pub mod Apertures
pub mod Names
pub mod Macros
pub mod Worked
