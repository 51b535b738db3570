pub mod UnionLemmas
pub mod RowLemmas
pub mod EntryLemmas
