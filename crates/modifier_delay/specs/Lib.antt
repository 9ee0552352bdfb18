pub mod Invoke
