pub mod PlaceLemmas
pub mod CoverLemmas
pub mod SettledLemmas
pub mod TestLemmas
pub mod SearchLemmas
pub mod ResultLemmas
