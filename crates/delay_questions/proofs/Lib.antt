pub mod Stops
pub mod Memory
pub mod Lines
pub mod Named
pub mod Kept
