pub mod ContentLemmas
pub mod PatchedImages
pub mod WrittenBytes
pub mod RowLemmas
pub mod FillLemmas
pub mod BlankSections
pub mod WholeImages
pub mod OneImage
