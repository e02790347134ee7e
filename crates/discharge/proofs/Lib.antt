pub mod Discharge
pub mod Magnifiers
