pub mod QuarterSine
pub mod Exact
pub mod Fold
