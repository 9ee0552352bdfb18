pub mod Change
pub mod Kinds
pub mod AsCoded
