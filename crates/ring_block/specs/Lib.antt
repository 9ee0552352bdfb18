pub mod Block
pub mod AsCoded
