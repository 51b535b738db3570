pub mod FormLemmas
pub mod NumberLemmas
