pub mod Digits
pub mod WholeWalks
pub mod Once
pub mod WrittenLemmas
