pub mod Refusals
pub mod Schedules
pub mod Outputs
