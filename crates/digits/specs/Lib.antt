pub mod Coordinate
pub mod Digits
pub mod Natural
pub mod Sign
pub mod Zeros
