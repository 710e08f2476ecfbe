pub mod Outcomes
pub mod Names
pub mod Messages
pub mod Lines
pub mod Pieces
