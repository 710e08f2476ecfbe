pub mod Gabi
pub mod Letters
pub mod Lines
pub mod Listing
pub mod Answers
