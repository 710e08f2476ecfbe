pub mod Function
pub mod Calls
pub mod Chains
pub mod Rules
pub mod Views
