pub mod Entries
pub mod Fits
