pub mod Lingers
