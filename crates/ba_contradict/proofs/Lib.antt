pub mod EmptyLemmas
pub mod ToldLemmas
