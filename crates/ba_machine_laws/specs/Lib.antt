pub mod Agreeing
pub mod Shelves
pub mod Whole
pub mod Journals
pub mod OneWorker
pub mod Ideals
