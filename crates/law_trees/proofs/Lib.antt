pub mod Built
pub mod Evaluated
pub mod Examples
pub mod Formed
pub mod Macros
pub mod Trees
