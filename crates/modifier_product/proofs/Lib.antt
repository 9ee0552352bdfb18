pub mod Integers
pub mod Widths
