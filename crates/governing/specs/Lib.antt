pub mod Strakes
pub mod Handed
