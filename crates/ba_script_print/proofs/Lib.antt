pub mod TextLemmas
pub mod PutLemmas
pub mod ContextLemmas
pub mod ReadBackLemmas
pub mod JsonLemmas
pub mod FlatLemmas
pub mod HeldLemmas
pub mod WriteLemmas
