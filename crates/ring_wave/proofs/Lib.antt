pub mod FewPasses
pub mod Sounding
pub mod WholeFile
