use Rattle.std.proofs.Common.{◌<◌, ℕ}
use Rattle.glk_obj.specs.Rules.{IsOddlyAligned}
use Rattle.glk_obj.proofs.definitions.odd_align.Given as goal

abbrev pub invariant-loop-i : goal.invariant-loop-i
invariant-loop-i l = (j : ℕ) → j < l.i → IsOddlyAligned l.bytes j → ⊥
