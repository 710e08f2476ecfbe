use Rattle.glk_closure.specs.Search.{Searching, weight}
use Rattle.glk_closure.proofs.search.reach.Given as goal

abbrev pub invariant-loop-effects : goal.invariant-loop-effects
invariant-loop-effects g l = Searching (g.P.Program.graph l.program) l.marks

abbrev pub decreases-loop-effects : goal.decreases-loop-effects
decreases-loop-effects g l = weight l.marks
