pub mod Pitch
pub mod AsCoded
