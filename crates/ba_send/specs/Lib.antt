pub mod Texts
pub mod Sent
pub mod Sendable
pub mod ReadBack
pub mod Closed
