pub mod GeneratorLoads
