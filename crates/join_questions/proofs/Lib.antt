pub mod Marking
pub mod Answers
