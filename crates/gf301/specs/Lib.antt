pub mod Field
pub mod Polynomial
pub mod Generator
