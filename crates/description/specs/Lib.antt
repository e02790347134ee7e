pub mod Silo
pub mod program
