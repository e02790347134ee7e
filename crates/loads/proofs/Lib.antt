pub mod LoadLaws
pub mod WithFactor
pub mod Bounds
