pub mod AnyOrder
pub mod MarksApart
