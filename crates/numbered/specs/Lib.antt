pub mod Choice
pub mod Calls
pub mod Mending
pub mod Placing
