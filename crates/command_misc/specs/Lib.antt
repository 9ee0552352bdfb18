pub mod Misc
