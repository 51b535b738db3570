pub mod Limits
pub mod Text
pub mod Evident
pub mod Journal
pub mod Ran
pub mod Told
pub mod Decided
