pub mod Wave
pub mod AsCoded
