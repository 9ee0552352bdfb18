pub mod RunModes
pub mod Exclusions
