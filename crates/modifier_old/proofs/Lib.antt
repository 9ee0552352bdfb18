pub mod Codes
pub mod Scales
pub mod Turns
