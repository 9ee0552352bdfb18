pub mod RungOrder
pub mod Filled
