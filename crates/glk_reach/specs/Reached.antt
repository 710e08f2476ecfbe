-- What is kept of a program that is not refused.
use Rattle.std.specs.Prelude.{◌≡◌, ℕ, Bool, false, List, None, slice_index_or}
use Rattle.glk_closure.specs.Kept.{IsLeast}
use Rattle.glk_keys.specs.Programs.{Program}
use Rattle.glk_reach.specs.Faults.{IsReachFault}
use Rattle.glk_reach.specs.Graphs.{graph_of}
use Rattle.glk_reach.specs.KeptLists.{kept_list}

-- for each key whether it is kept, and whether it may be in an interface; and the kept keys in order
pub record KeptSymbols : Type 0 where
  pub kept : List Bool
  pub iface : List Bool
  pub list : List ℕ

-- exactly the derivable keys are kept, those with a derivation of it may be in an interface, and there is no fault
pub record AreKeptOf (p : Program) (tasks : List ℕ) (s : KeptSymbols) : Type 0 where
  pub least : IsLeast (graph_of p tasks) (record { kept = s.kept; iface = s.iface })
  pub ordered : s.list ≡ kept_list p (λ k. slice_index_or s.kept k false)
  pub faultless : IsReachFault p tasks None
