pub mod Sorts
pub mod Chain
pub mod Reading
pub mod Writing
pub mod Printing
