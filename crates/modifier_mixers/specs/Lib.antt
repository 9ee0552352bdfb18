pub mod Mixers
