pub mod Help
pub mod LinkWords
pub mod Outcomes
pub mod NmWords
