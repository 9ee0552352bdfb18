pub mod Puts
pub mod Searches
