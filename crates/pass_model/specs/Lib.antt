pub mod Generators
pub mod Clipped
pub mod Modifiers
pub mod Pass
