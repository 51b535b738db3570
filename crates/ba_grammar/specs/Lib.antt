pub mod Items
pub mod Front
