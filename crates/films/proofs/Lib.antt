pub mod Examples
pub mod Inside
