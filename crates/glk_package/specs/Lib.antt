pub mod ObjectEntry
pub mod HeaderRule
pub mod WidthRule
pub mod ObjectRules
pub mod Members
pub mod Package
pub mod NoMismatch
pub mod PackageRefusal
