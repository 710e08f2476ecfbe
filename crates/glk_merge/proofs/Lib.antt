pub mod PollLaws
pub mod RowBounds
pub mod MarkLaws
pub mod ClashRows
pub mod FindLaws
pub mod OfferLaws
