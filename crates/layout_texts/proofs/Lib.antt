pub mod Dacs
