pub mod Pitches
pub mod Putting
pub mod Sorted
