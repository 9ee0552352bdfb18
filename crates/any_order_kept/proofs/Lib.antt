pub mod Changed
pub mod Asked
pub mod Calls
pub mod Numbers
pub mod Laws
