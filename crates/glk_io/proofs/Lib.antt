pub mod PathLemmas
pub mod SinkLemmas
