pub mod NlAuth
