pub mod Gathering
pub mod Laid
pub mod Room
pub mod Settled
pub mod Working
