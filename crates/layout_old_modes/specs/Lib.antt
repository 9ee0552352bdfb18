pub mod OldModes
