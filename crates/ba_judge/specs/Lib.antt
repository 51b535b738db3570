pub mod Judging
pub mod Reading
pub mod Rows
pub mod Shelves
