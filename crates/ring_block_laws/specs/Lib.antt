pub mod InBlocks
pub mod BlockClaims
