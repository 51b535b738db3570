pub mod PolicyLemmas
