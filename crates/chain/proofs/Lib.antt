pub mod Loops
pub mod Refusals
pub mod Answers
pub mod Claimed
