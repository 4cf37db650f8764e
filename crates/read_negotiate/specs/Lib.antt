pub mod Negotiate
