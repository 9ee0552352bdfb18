pub mod EveryOrder
pub mod MarksApart
