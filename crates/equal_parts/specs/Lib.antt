pub mod Parting
pub mod Fails
