pub mod Turn
pub mod Low
pub mod Returns
