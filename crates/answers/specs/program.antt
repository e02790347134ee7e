pub mod Place
pub mod Fill
