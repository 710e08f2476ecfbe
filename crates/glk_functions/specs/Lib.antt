pub mod Auxes
pub mod Tables
pub mod Checks
