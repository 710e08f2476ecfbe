pub mod Views
pub mod Roots
