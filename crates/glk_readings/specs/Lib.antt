pub mod Symbols
pub mod References
pub mod Offsets
pub mod Readings
pub mod Triples
pub mod Views
pub mod Sample
