pub mod Places
pub mod Comparing
pub mod WholeFile
