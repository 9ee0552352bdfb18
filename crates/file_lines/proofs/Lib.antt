pub mod LineKinds
pub mod FileLines
