pub mod Boxing
pub mod PlacingSteps
pub mod SectionSteps
pub mod InOrder
