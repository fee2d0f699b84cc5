pub mod Editions
pub mod Examples
pub mod Laws
pub mod Raised
pub mod Taken
pub mod Exact
