pub mod Delay
pub mod AsCoded
