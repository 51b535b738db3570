pub mod OrderLemmas
mod PickLemmas
pub mod SearchLemmas
pub mod SettledLemmas
