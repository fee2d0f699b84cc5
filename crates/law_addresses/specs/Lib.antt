pub mod Positions
pub mod Chains
pub mod Addresses
pub mod Sought
pub mod Marks
