pub mod Ranges
pub mod UseLemmas
pub mod Strings
pub mod Lengths
