pub mod Laws
pub mod Near
