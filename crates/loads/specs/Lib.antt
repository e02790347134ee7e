pub mod Load
pub mod Holds
pub mod Bound
pub mod program
