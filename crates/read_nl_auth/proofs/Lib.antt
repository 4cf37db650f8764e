pub mod Scans
pub mod Places
pub mod Names
