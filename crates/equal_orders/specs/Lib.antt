pub mod Equal
pub mod ButMarks
pub mod WorkedExamples
