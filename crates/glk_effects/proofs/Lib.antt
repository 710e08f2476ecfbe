pub mod Within
pub mod Added
pub mod Counts
pub mod MethodSteps
pub mod Parts
