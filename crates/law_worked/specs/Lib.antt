pub mod Films
pub mod Questions
pub mod Table
pub mod Written
