use Rattle.std.proofs.Common.{◌<◌, ℕ}
use Rattle.glk_obj.specs.Rules.{HasExcessData}
use Rattle.glk_obj.proofs.definitions.long_data.Given as goal

abbrev pub invariant-loop-i : goal.invariant-loop-i
invariant-loop-i l = (j : ℕ) → j < l.i → HasExcessData l.bytes j → ⊥
