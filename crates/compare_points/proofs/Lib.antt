pub mod Failing
pub mod Asked
pub mod Neighbours
pub mod Differences
pub mod ReplacedWords
