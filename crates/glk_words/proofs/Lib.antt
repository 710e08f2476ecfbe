pub mod Spellings
pub mod Steps
pub mod Settings
pub mod WordSteps
pub mod Accepted
pub mod Spelled
pub mod Orders
