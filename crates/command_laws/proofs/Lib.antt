pub mod Writes
pub mod Lengths
pub mod Accepted
pub mod ValidLoads
pub mod ValidCommands
pub mod UpdateValid
pub mod CounterAfter
pub mod Lingering
