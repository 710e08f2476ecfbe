pub mod Tables
pub mod ConfigLemmas
pub mod BuiltinLemmas
pub mod PackageLemmas
pub mod StoredLemmas
pub mod SharedRules
pub mod WorldLemmas
pub mod TableLemmas
pub mod OneLoad
pub mod ReadLemmas
pub mod PathLemmas
pub mod FormatLemmas
pub mod ImportRefLemmas
pub mod ImportLemmas
pub mod WaveSteps
pub mod SomeLoad
pub mod SomeConfig
mod OwnPaths
