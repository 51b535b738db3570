pub mod Chosen
pub mod Draws
pub mod Files
pub mod Lists
pub mod Reads
pub mod Script
pub mod Standard
pub mod Tables
