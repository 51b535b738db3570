pub mod Index
pub mod Search
pub mod Turn
pub mod Visits
