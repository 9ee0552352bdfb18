pub mod RungClaims
