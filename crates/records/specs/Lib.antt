pub mod Rules
pub mod Refusal
pub mod Kind
pub mod Format
pub mod program
