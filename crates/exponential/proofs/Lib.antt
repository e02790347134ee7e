pub mod Sums
pub mod Terms
pub mod SeriesLaws
pub mod Weighted
pub mod Joins
pub mod TableLaws
pub mod LowerLaws
pub mod LowerDrop
