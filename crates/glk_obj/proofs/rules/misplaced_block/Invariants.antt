use Rattle.std.proofs.Common.{ℕ, ◌<◌}
use Rattle.glk_obj.specs.Rules.{IsMisplaced}
use Rattle.glk_obj.proofs.rules.misplaced_block.Given as goal

abbrev pub invariant-loop-k : goal.invariant-loop-k
invariant-loop-k l = (j : ℕ) → j < l.k → IsMisplaced l.bytes j → ⊥
