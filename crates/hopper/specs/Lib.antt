pub mod Least
pub mod Hopper
