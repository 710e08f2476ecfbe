pub mod Memories
pub mod Told
pub mod Starts
pub mod Fields
