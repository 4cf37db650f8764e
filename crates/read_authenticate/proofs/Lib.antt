pub mod Laws
pub mod Mic
