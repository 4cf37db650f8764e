pub mod Nego
