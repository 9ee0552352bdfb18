pub mod Refused
pub mod AnyOrdering
pub mod Begun
pub mod Lengths
