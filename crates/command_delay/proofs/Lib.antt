pub mod DelayFields
