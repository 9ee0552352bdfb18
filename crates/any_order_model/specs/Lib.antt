pub mod OrderFree
pub mod Clauses
pub mod Parting
