pub mod Chal
