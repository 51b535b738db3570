pub mod Keys
pub mod Rows
pub mod Reads
pub mod Passes
