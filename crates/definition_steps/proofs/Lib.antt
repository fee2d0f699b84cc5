pub mod Passing
pub mod Texts
pub mod Selecting
pub mod Modelling
pub mod Gathered
pub mod Working
pub mod Kept
pub mod Defining
