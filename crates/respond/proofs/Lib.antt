pub mod Domains
pub mod Decisions
pub mod Answers
