pub mod Steady
pub mod Printed
