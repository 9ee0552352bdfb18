pub mod Modifier
pub mod Functions
pub mod Coefficients
