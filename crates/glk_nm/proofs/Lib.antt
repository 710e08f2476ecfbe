pub mod SortedOnce
pub mod ListingLemmas
pub mod HexadecimalLemmas
