use Rattle.std.proofs.Common.{◌<◌, ℕ, ◌≡◌, true}
use Rattle.glk_obj.specs.FuncInfos.{node_at}
use Rattle.glk_obj.specs.References.{in_range}
use Rattle.glk_tables.proofs.rules.any_stray.Given as goal

abbrev pub invariant-loop-k : goal.invariant-loop-k
invariant-loop-k l = (j : ℕ) → j < l.k → in_range l.object (node_at l.info j).func ≡ true
