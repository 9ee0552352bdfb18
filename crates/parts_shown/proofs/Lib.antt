pub mod Different
pub mod Passes
