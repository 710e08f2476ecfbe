pub mod RelocationWalks
pub mod OffsetLemmas
pub mod TargetLists
