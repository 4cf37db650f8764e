pub mod Respond
pub mod Settings
