pub mod KeptSymbols
pub mod Programs
pub mod Locations
pub mod Indices
pub mod Members
pub mod Tables
pub mod Pushes
