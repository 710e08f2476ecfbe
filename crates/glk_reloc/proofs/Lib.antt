pub mod Bounds
pub mod Splices
pub mod Patching
pub mod Cuts
pub mod Unique
pub mod Patchable
pub mod Joined
pub mod ChunkSteps
