pub mod Highest
pub mod Earliest
pub mod Loops
pub mod Finding
