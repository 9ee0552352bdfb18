pub mod OrderFile
