pub mod History
pub mod Knowing
pub mod Rule
pub mod Steps
pub mod Passes
