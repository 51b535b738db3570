pub mod SourceLemmas
pub mod StdLemmas
