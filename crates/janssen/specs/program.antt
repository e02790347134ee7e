pub mod Range
pub mod Pressure
pub mod Prepare
