pub mod Switched
pub mod Levels
pub mod OldTurns
pub mod Registers
pub mod Sounding
pub mod Figures
