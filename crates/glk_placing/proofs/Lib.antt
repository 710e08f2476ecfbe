mod IndexSteps
pub mod Bounds
pub mod SymbolLaws
mod Placeable
mod PlaceSteps
