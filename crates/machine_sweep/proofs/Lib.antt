pub mod Words
pub mod EveryColumn
pub mod Rows
