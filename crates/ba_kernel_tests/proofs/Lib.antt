pub mod PolicyLemmas
pub mod QuestionLemmas
