pub mod Exponential
pub mod OlderTable
