pub mod Lines
pub mod Challenges
pub mod Programs
pub mod Places
