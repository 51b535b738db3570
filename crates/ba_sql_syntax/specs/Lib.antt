pub mod Terminals
pub mod Letters
pub mod Scan
pub mod Reader
pub mod Progress
pub mod Grammar
pub mod Written
