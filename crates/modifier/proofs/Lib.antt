pub mod Low
pub mod Turns
