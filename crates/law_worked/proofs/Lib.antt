pub mod Cases
pub mod Films
pub mod Numbers
pub mod Table
