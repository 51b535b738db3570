pub mod Shapes
pub mod Steps
pub mod Reading
pub mod Written
pub mod Checked
pub mod ReadBack
pub mod Says
