pub mod LawLemmas
pub mod StepLemmas
pub mod CountLemmas
