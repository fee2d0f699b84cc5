pub mod Asked
pub mod Examples
pub mod Left
pub mod Rules
pub mod Turns
