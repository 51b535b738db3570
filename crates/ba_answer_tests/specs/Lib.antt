pub mod JoinSteps
pub mod PlainSearch
