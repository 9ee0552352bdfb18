pub mod Heard
pub mod Ringing
pub mod AsCoded
