pub mod Order
pub mod Up
pub mod Division
