pub mod Turns
pub mod Points
pub mod Swaps
pub mod Angles
pub mod Laws
pub mod Placing
pub mod Flashing
