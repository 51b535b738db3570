pub mod Passing
pub mod Asking
pub mod Judging
pub mod Deciding
pub mod KeyReads
