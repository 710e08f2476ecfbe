pub mod FirstFaults
pub mod Targets
pub mod Contents
pub mod IndexLaws
