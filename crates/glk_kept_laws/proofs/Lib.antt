pub mod ChosenRows
pub mod KeptLaws
