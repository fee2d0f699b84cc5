pub mod Coming
pub mod Laws
