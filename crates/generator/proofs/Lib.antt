pub mod Registers
pub mod Turns
pub mod Sounding
