pub mod Laws
pub mod Comparison
