pub mod Branches
pub mod Numbers
pub mod Valid
