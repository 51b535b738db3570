pub mod ExactLemmas
pub mod ItemLemmas
pub mod TextLemmas
pub mod ToldLemmas
