pub mod Opening
pub mod Parts
pub mod Found
pub mod Views
pub mod Laws
