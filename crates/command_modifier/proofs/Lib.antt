pub mod Modes
pub mod ModifierCodes
