pub mod LineBytes
pub mod LineLists
pub mod Lists
