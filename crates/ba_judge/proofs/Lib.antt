pub mod JudgeLemmas
pub mod LearnLemmas
pub mod ReadLemmas
pub mod ShelfLemmas
pub mod UnionLemmas
pub mod WeakerLemmas
