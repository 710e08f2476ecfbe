pub mod Order
pub mod Schedule
pub mod Chains
pub mod Progress
pub mod Search
