pub mod Graph
pub mod Tasks
pub mod Reached
pub mod Order
pub mod Ranks
