pub mod Discharge
pub mod program
