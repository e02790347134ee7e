pub mod Alternating
pub mod CosineLaws
