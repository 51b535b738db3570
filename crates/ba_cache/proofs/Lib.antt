pub mod Crossing
pub mod Histories
pub mod Places
pub mod RowLemmas
