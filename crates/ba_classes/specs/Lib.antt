pub mod Best
pub mod Chains
pub mod Closure
pub mod Grid
pub mod Image
pub mod Merged
pub mod Tied
