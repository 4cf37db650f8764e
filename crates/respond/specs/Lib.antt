pub mod Domain
pub mod Decision
pub mod Answer
