mod FaultLemmas
mod MethodLemmas
mod TargetLemmas
