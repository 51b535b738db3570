pub mod JsonLemmas
pub mod SaidLemmas
