pub mod Throughout
pub mod WokenLater
