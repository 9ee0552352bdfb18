pub mod Signs
pub mod Sounding
pub mod Telling
