use Rattle.std.proofs.Common.{◌<◌, ℕ}
use Rattle.glk_obj.specs.Rules.{IsBadEntry}
use Rattle.glk_obj.proofs.tables.bad_entry_of.Given as goal

abbrev pub invariant-loop-i : goal.invariant-loop-i
invariant-loop-i l = (j : ℕ) → j < l.i → IsBadEntry l.bytes l.t j → ⊥
