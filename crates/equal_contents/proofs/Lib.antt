pub mod Words
pub mod Content
pub mod Loaded
pub mod Settings
pub mod Triggering
pub mod Sounding
