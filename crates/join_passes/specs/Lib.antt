pub mod Changes
pub mod TwoBells
