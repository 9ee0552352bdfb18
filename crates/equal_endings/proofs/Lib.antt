pub mod Folds
pub mod Taking
pub mod Told
pub mod Stage
pub mod Ends
pub mod Same
pub mod Alike
