pub mod InPasses
pub mod NothingBetween
pub mod DelayClaims
