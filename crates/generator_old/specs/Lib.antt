pub mod OldGenerator
pub mod AsCoded
