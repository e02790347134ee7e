pub mod ProductRecord
pub mod Refusals
