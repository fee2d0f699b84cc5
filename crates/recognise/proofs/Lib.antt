pub mod Examples
pub mod Letters
