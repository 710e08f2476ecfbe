pub mod Counts
pub mod Contents
pub mod Streams
pub mod Changes
pub mod Files
pub mod Paths
pub mod Memory
