pub mod Table
pub mod program
