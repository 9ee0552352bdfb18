pub mod Taking
pub mod Updating
