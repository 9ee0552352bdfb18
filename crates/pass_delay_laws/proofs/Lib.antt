pub mod Units
pub mod Stages
pub mod StagesOf
pub mod OnePass
pub mod Sequences
pub mod NothingBetween
pub mod Echo
pub mod Claimed
