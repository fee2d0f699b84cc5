pub mod Asked
pub mod Heading
pub mod Rules
