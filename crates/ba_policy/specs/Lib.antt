pub mod Statements
pub mod Reader
pub mod Meaning
pub mod Reading
pub mod Laws
