pub mod Stretches
pub mod OwnPass
pub mod Sounding
pub mod OnePass
pub mod ManyPasses
pub mod TwoBells
