pub mod Lines
pub mod Tests
pub mod Audits
pub mod Keeping
pub mod Ends
