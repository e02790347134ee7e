pub mod Table
pub mod Lower
