pub mod Elections
pub mod Keys
pub mod Probing
pub mod Ranks
pub mod Rule
pub mod Seats
pub mod Tested
