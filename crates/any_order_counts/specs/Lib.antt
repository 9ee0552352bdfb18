pub mod Kept
pub mod AsCoded
