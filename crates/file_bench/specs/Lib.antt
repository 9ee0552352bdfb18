pub mod BenchFile
pub mod AsCoded
