mod Edges
mod Counts
pub mod Definitions
pub mod Positions
pub mod Awaited
pub mod Roots
pub mod TaskKeys
