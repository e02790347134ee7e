pub mod Heights
pub mod Sides
pub mod Layouts
pub mod Chains
pub mod Acceptance
pub mod Described
pub mod Parts
pub mod Examining
