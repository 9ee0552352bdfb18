pub mod DelayLoads
