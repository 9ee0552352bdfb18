pub mod Readiness
pub mod Runs
