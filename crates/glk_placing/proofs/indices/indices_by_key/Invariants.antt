use Rattle.std.proofs.Common.{◌≡◌, ◌≤◌, ◌<◌, ℕ, length}
use Rattle.glk_placing.proofs.IndexSteps.{AreIndicesFrom}
use Rattle.glk_placing.proofs.indices.indices_by_key.Given as goal

abbrev pub invariant-loop-i : goal.invariant-loop-i
invariant-loop-i l = record { inside : l.i ≤ length l.list; indices : AreIndicesFrom l.list l.i l.keys l.indices.items }

abbrev pub decreases-loop-i : goal.decreases-loop-i
decreases-loop-i l = l.i
