pub mod Magnifier
