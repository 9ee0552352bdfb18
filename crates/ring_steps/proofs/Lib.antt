pub mod Printing
pub mod RungFile
pub mod Updates
pub mod Turns
pub mod Keeping
pub mod HeardPasses
