pub mod Agreed
pub mod FirstPoint
