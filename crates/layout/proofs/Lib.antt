pub mod Reach
pub mod UpdateTicks
