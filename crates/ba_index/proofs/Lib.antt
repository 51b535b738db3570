pub mod FrontLemmas
pub mod NumberLemmas
