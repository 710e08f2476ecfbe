mod TableLemmas
mod FaultLemmas
mod PrefixLemmas
pub mod SoundLemmas
mod EncodeLemmas
mod LawLemmas
