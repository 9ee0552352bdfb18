pub mod Generator
pub mod AsCoded
