pub mod ListLemmas
pub mod FileLemmas
pub mod LineLemmas
pub mod TableLemmas
pub mod EntryLemmas
