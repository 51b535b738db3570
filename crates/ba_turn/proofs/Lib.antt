pub mod Lists
pub mod Histories
pub mod Steps
pub mod Splits
pub mod Ends
pub mod Calls
