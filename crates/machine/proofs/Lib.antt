pub mod Words
pub mod Regions
pub mod Limits
pub mod Sweep
pub mod ValidMachine
pub mod FreshMachine
pub mod Asked
pub mod NarrowCounter
