pub mod Examples
pub mod Films
pub mod Left
pub mod Rules
