pub mod FewCommands
pub mod Judging
pub mod Loading
pub mod WholeFile
