pub mod Draws
pub mod Packages
pub mod Uses
pub mod Calls
pub mod Objects
pub mod Configs
pub mod Worlds
