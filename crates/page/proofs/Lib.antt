pub mod Lines
pub mod Room
pub mod Named
pub mod ReadBack
pub mod Call
pub mod OnePage
