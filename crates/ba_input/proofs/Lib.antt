pub mod InputLemmas
pub mod WorkloadLemmas
pub mod ReadsLemmas
pub mod RefusalLemmas
pub mod DecidingLemmas
