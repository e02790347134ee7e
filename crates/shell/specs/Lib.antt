pub mod Shell
pub mod Holds
pub mod Promise
pub mod Symmetry
pub mod program
