pub mod Contents
pub mod Patched
pub mod Image
pub mod Laws
pub mod Rows
