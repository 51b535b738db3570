pub mod Limits
pub mod Askers
pub mod Books
pub mod Steps
pub mod Subjects
pub mod Wellformed
pub mod Laws
pub mod Contradicting
