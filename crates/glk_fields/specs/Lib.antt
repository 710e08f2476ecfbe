pub mod Values
pub mod Places
pub mod Ready
pub mod Added
pub mod Laws
