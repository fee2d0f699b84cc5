pub mod Full
pub mod Levels
pub mod Tables
pub mod Repeats
pub mod Blocks
pub mod BlockEnds
pub mod RepeatEnds
