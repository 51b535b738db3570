pub mod Lines
pub mod Shapes
pub mod Reading
pub mod Says
pub mod ReadBack
