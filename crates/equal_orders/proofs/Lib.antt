pub mod Texts
pub mod Settings
pub mod Finished
pub mod Sufficiency
pub mod Necessity
pub mod Theorem
pub mod WorkedExamples
