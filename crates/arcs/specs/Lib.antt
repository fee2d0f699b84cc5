pub mod Arcs
pub mod Near
