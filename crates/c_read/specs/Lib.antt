pub mod Numbers
pub mod FieldCopy
