pub mod Used
pub mod JoinedWords
pub mod Pairs
pub mod JoinedBells
