pub mod Roles
pub mod Filled
