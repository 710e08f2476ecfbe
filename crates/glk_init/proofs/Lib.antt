pub mod TaskLemmas
pub mod ListLemmas
pub mod EdgeLemmas
pub mod FirstLemmas
pub mod RankLemmas
pub mod OrderLemmas
