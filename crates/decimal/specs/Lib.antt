pub mod Amounts
pub mod Decimal
pub mod Exact
pub mod Kept
pub mod Point
