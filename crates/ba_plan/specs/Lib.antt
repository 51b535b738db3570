pub mod Plan
pub mod Follows
pub mod Ends
pub mod Sent
