pub mod Mergings
pub mod Clashes
pub mod KeyTables
pub mod Marks
pub mod Accessors
pub mod Offers
