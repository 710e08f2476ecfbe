use Rattle.std.proofs.Common.{◌≡◌, ◌<◌, ◌≤◌, ℕ, false}
use Rattle.std.specs.Prelude.{nat_eq}
use Rattle.std.specs.HashMap.{get}
use Rattle.std.specs.Option.{option_map_or}
use Rattle.glk_faults.specs.Taken.{shares}
use Rattle.glk_faults.proofs.taken.is_taken.Given as goal

abbrev pub invariant-loop-other : goal.invariant-loop-other
invariant-loop-other l = (q : ℕ) → l.low ≤ q → q < l.other → option_map_or (shares l.start l.size q) (get nat_eq l.taken q) false ≡ false
