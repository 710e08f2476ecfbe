pub mod ByteLemmas
pub mod SearchLemmas
pub mod OffsetLemmas
pub mod MemoryLemmas
pub mod BucketLemmas
