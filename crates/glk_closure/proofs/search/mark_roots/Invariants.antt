use Rattle.std.proofs.Common.{◌<◌, ℕ, get_or}
use Rattle.std.specs.Prelude.{IsTrue}
use Rattle.glk_closure.specs.Reach.{Kept}
use Rattle.glk_closure.specs.Marks.{Holds, Extends}
use Rattle.glk_closure.proofs.search.mark_roots.Given as goal

abbrev pub invariant-loop-i : goal.invariant-loop-i
invariant-loop-i g l = record {
  extends : Extends (g.P.Program.graph l.program) l.fn.marks l.marks;
  roots : (j : ℕ) → j < l.i → IsTrue ((g.P.Program.graph l.program).defined (get_or l.roots j 0)) → Holds l.marks (Kept (get_or l.roots j 0));
}
