pub mod Laws
pub mod Weaker
