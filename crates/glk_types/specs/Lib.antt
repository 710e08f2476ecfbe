pub mod Abi
pub mod Targets
pub mod Names
pub mod Types
pub mod Faults
pub mod Methods
pub mod Rules
pub mod Laws
