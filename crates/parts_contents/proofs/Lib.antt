pub mod Copied
pub mod Filling
