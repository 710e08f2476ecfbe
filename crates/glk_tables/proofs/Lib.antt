pub mod ChainLemmas
pub mod ValueLemmas
