pub mod SameButHigh
pub mod Alike
pub mod NarrowRinging
