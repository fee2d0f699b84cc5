pub mod Roles
pub mod Layer
