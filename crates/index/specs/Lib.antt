pub mod First
pub mod Tree
pub mod Indexed
pub mod Layered
pub mod Numbers
pub mod Names
