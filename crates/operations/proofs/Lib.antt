pub mod Codes
pub mod Ends
