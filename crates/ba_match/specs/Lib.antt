pub mod Bindings
pub mod Alike
pub mod Conditions
pub mod Matching
pub mod Searches
pub mod Tested
pub mod Instances
