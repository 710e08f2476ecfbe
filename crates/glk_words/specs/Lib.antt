pub mod Words
pub mod Values
pub mod Commands
pub mod CommandLine
pub mod Steps
pub mod Laws
pub mod SymbolOrders
