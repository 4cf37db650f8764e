pub mod Fits
pub mod Copying
pub mod Sent
pub mod Standing
