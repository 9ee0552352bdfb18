pub mod Places
pub mod AsCoded
