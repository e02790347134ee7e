pub mod Cosine
pub mod program
