pub mod Callers
pub mod Captures
