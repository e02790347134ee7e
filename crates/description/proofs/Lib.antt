pub mod Walls
pub mod Headroom
pub mod Sums
