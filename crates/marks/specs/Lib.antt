pub mod Items
pub mod Marks
