pub mod Placed
pub mod Boxes
pub mod Symbols
pub mod Layout
pub mod Limits
pub mod Laws
pub mod Steps
pub mod Sections
