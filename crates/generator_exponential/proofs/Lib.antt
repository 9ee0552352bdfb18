pub mod Largest
pub mod LargestEntries
pub mod Sizes
pub mod OlderTable
