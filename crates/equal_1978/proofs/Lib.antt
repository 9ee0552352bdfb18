pub mod Sounding
pub mod Telling
