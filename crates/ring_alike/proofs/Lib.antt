pub mod Alike
pub mod Listed
pub mod Files
