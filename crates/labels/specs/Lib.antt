pub mod Labels
pub mod Pass
