pub mod Causes
pub mod Seen
pub mod Files
pub mod Sink
pub mod MemFiles
pub mod MemSink
