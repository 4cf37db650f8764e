pub mod Authenticate
