pub mod RunModes
