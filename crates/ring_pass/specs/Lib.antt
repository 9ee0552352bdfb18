pub mod BenchPass
pub mod Benches
