pub mod FewLemmas
pub mod JoinLemmas
pub mod TableLemmas
pub mod TraceLemmas
pub mod PlainAnswerLemmas
pub mod PlainHeadLemmas
pub mod PlainSearchLemmas
