pub mod Layout
pub mod Widths
pub mod Machine
