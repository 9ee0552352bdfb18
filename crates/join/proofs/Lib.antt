pub mod Storing
pub mod Stored
pub mod Answers
