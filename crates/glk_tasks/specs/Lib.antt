pub mod Tasks
pub mod Lists
pub mod Laws
