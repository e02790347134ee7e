pub mod LowerLaws
pub mod Rounding
