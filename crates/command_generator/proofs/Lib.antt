pub mod GeneratorCodes
