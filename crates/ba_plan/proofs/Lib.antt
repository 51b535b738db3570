pub mod Counts
pub mod Plans
pub mod Causes
pub mod Told
pub mod Sending
pub mod SendingLines
