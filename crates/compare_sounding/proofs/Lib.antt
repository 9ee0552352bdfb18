pub mod Adders
pub mod FailingWord
