pub mod AnswerLemmas
pub mod BriefLemmas
pub mod RowLemmas
pub mod ToldLemmas
pub mod ReadLemmas
