pub mod ByNumber
pub mod Asked
