pub mod Open
pub mod Closing
pub mod OpenContour
