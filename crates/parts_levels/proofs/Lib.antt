pub mod SilentLevels
