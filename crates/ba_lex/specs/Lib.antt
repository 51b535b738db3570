pub mod Spelling
pub mod Tokens
pub mod Reading
pub mod Faults
pub mod Word
