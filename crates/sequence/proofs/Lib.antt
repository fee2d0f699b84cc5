pub mod Examples
pub mod Films
pub mod Rounded
pub mod Walk
pub mod Rules
