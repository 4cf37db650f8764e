pub mod Alphabet
pub mod Bytes
pub mod Groups
pub mod Writing
pub mod Reading
pub mod Size
pub mod Back
pub mod Vectors
