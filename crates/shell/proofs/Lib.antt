pub mod Signs
pub mod Quadrants
pub mod Bounds
pub mod Sizes
pub mod Shape
pub mod Down
pub mod Call
pub mod OneReply
