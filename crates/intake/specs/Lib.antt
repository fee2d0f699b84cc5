pub mod Runs
pub mod Stages
