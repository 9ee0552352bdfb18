pub mod Words
pub mod Parts
pub mod Steps
pub mod Readiness
pub mod Runs
