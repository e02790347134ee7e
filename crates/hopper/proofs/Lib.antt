pub mod Least
pub mod Root
pub mod Hopper
