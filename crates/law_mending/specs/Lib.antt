pub mod Intact
pub mod Returned
