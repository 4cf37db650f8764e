pub mod Nl
pub mod NlWord
