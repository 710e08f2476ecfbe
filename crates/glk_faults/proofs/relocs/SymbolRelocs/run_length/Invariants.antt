use Rattle.std.proofs.Common.{◌≡◌, ◌<◌, ◌≤◌, ℕ, true}
use Rattle.glk_readings.specs.Triples.{is_methodoff_at}
use Rattle.glk_reach.specs.Chosen.{relocations_of}
use Rattle.glk_faults.proofs.relocs.SymbolRelocs.run_length.Given as goal

abbrev pub invariant-loop-end : goal.invariant-loop-end
invariant-loop-end l = (j : ℕ) → l.i ≤ j → j < l.end → is_methodoff_at (relocations_of l.self.merged.now.program l.self.key) j ≡ true
