use Rattle.glk_reach.specs.Indices.{AreIndices}
use Rattle.glk_reach.proofs.indices.all_indices.Given as goal

abbrev pub invariant-loop-key : goal.invariant-loop-key
invariant-loop-key l = AreIndices l.merged.program l.key l.indices
