pub mod Rows
pub mod Laws
pub mod Totals
pub mod Worked
