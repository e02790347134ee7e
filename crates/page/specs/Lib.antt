pub mod Page
pub mod Promise
pub mod Reading
pub mod program
