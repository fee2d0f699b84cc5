pub mod CodePoints
pub mod Examples
pub mod Letter
pub mod Points
pub mod Table
