pub mod ShapeLemmas
pub mod MatchLemmas
pub mod StandLemmas
