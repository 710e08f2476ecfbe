use Rattle.std.proofs.Common.{ℕ, ◌<◌}
use Rattle.glk_ar.specs.Part.{IsMarkAt}
use Rattle.glk_ar.proofs.object_parts.first_mark.Given as goal

abbrev pub invariant-loop-i : goal.invariant-loop-i
invariant-loop-i l = (k : ℕ) → k < l.i → IsMarkAt l.body k → ⊥
