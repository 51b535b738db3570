pub mod EvidentLemmas
pub mod HeadLemmas
pub mod ServeLemmas
pub mod StepLemmas
pub mod TopLemmas
pub mod TrackLemmas
