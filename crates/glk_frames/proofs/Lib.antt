pub mod AtLemmas
pub mod TreeLemmas
pub mod FrameLemmas
pub mod SearchLemmas
pub mod BucketLemmas
