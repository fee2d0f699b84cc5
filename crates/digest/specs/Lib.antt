pub mod Word
pub mod Table
pub mod Rounds
pub mod Bytes
pub mod Md5
pub mod Runs
pub mod Text
