pub mod Good
pub mod AsCoded
pub mod Passes
pub mod Settings
