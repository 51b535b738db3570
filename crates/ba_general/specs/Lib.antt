pub mod Conditions
pub mod Dropping
pub mod Generals
pub mod Layouts
pub mod Leaving
pub mod Patterns
pub mod Retold
