pub mod Words
pub mod Generators
pub mod Modifiers
pub mod Passes
pub mod Commands
pub mod Updates
pub mod Ringings
