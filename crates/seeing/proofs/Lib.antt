pub mod Roles
pub mod Sights
