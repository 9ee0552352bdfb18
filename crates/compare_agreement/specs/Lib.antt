pub mod Agreement
pub mod Points
