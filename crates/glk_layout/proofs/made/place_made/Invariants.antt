use Rattle.glk_layout.proofs.PlacingSteps.{MadeTo}
use Rattle.glk_layout.proofs.made.place_made.Given as goal

abbrev pub invariant-loop-i : goal.invariant-loop-i
invariant-loop-i l = MadeTo l.start l.made l.places l.i l.end
