pub mod Sound
pub mod Lists
