pub mod Earliest
pub mod Numberings
pub mod AsCoded
