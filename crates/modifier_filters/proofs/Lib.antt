pub mod Steady
pub mod EitherCoefficient
