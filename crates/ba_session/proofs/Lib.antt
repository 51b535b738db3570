mod JudgeLemmas
mod KeepLemmas
pub mod PassLemmas
pub mod ReadingLemmas
