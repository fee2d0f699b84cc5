pub mod Entries
pub mod Marks
pub mod Closed
pub mod Apertures
pub mod Contours
pub mod Ends
