use Rattle.glk_closure.proofs.Places.{ArePlaces}
use Rattle.glk_closure.proofs.kept.marked_keys.Given as goal

abbrev pub invariant-loop-key : goal.invariant-loop-key
invariant-loop-key l = ArePlaces l.marks l.list.items l.key
