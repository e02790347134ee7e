pub mod Pairs
pub mod Factor
pub mod Squat
pub mod Marked
