pub mod Clauses
pub mod EveryOrder
pub mod Ending
pub mod Parted
pub mod Telling
pub mod Rule
