pub mod Finds
pub mod Lookups
pub mod Sizes
pub mod Rising
pub mod Sharing
pub mod RunLengths
pub mod Sharers
pub mod CleanFaults
