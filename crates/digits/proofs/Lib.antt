pub mod Coordinates
pub mod Strings
pub mod Past
pub mod Sign
pub mod Sizes
pub mod Ways
pub mod Zeros
