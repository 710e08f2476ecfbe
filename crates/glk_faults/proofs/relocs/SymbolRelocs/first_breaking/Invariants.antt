use Rattle.std.proofs.Common.{◌≡◌, ◌<◌, ℕ, false}
use Rattle.glk_faults.specs.Rules.{breaks}
use Rattle.glk_faults.proofs.relocs.SymbolRelocs.first_breaking.Given as goal

abbrev pub invariant-loop-i : goal.invariant-loop-i
invariant-loop-i l = (j : ℕ) → j < l.i → breaks l.self.merged.now.program l.self.key l.rule j ≡ false
