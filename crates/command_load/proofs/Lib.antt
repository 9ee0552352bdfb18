pub mod Adjusting
pub mod Sequence
