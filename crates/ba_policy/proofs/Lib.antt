pub mod EndLemmas
pub mod StatementLemmas
pub mod DeclareLemmas
pub mod FitLemmas
pub mod KeyLemmas
pub mod LoopLemmas
pub mod ReadingLemmas
