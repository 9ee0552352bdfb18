pub mod Arrays
pub mod Steps
pub mod Holds
