pub mod ModuleData
pub mod Pieces
pub mod Laws
