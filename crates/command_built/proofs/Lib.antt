pub mod CommandFields
pub mod BuiltCodes
