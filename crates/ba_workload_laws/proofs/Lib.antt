pub mod SchemaLemmas
pub mod PolicyLemmas
pub mod LengthLemmas
pub mod ConformLemmas
pub mod ReadingLemmas
