pub mod Clash
pub mod Steps
