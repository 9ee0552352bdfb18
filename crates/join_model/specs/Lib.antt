pub mod Join
pub mod Plays
pub mod AsCoded
