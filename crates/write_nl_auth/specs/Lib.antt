pub mod Writing
pub mod Strings
