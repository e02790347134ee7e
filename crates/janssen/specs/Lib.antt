pub mod Section
pub mod Filling
pub mod Numbers
pub mod Band
pub mod program
