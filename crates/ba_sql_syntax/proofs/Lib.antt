pub mod TerminalLemmas
pub mod RunLemmas
pub mod FrontLemmas
pub mod SideLemmas
pub mod ConditionLemmas
pub mod SelectLemmas
pub mod ScanLemmas
pub mod TextLemmas
