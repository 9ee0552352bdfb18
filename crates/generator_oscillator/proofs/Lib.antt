pub mod Waves
pub mod Cosines
