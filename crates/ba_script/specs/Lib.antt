pub mod Contexts
pub mod Lines
pub mod Reading
pub mod Script
pub mod Scripts
pub mod Tracking
