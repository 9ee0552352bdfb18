pub mod OfKinds
pub mod Places
pub mod Steps
pub mod Tallies
pub mod Own
