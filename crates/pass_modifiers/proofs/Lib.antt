pub mod Ring
pub mod Lags
pub mod Turns
