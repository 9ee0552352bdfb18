pub mod BuiltCodes
