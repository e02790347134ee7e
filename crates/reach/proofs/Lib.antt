pub mod Depth
pub mod PressureLaws
pub mod Halving
pub mod Pass
pub mod NeverFalls
pub mod Call
pub mod Carried
