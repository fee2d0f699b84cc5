pub mod Commands
pub mod Leads
pub mod Rounded
pub mod Turns
