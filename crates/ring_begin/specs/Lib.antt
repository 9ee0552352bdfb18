pub mod AsCoded
pub mod Begun
