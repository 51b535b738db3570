pub mod WordLemmas
pub mod ListedLemmas
pub mod SeveralLemmas
pub mod KeywordLemmas
pub mod MapLemmas
