pub mod Described
pub mod Wall
