pub mod Seen
pub mod Taking
pub mod MemSource
pub mod StdSource
