use Rattle.std.proofs.Common.{◌<◌, ℕ}
use Rattle.glk_obj.specs.Rules.{IsFieldOutside}
use Rattle.glk_obj.proofs.definitions.stray_reloc_of.Given as goal

abbrev pub invariant-loop-k : goal.invariant-loop-k
invariant-loop-k l = (j : ℕ) → j < l.k → IsFieldOutside l.bytes l.i j → ⊥
