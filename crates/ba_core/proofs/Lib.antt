pub mod AskLemmas
pub mod ReadLemmas
pub mod RequestLemmas
pub mod RunLemmas
pub mod StateLemmas
