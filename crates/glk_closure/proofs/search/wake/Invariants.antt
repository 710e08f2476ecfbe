use Rattle.std.proofs.Common.{◌<◌, ℕ, get_or}
use Rattle.glk_closure.specs.declared.effect.Targets.{Targets}
use Rattle.glk_closure.specs.Reach.{Fact, Reach}
use Rattle.glk_closure.specs.Rows.{Stands}
use Rattle.glk_closure.specs.Marks.{methods_at, ExtendsIf, SameRows, Covers, AllKept}
use Rattle.glk_closure.proofs.search.wake.Given as goal

abbrev pub invariant-loop-j : goal.invariant-loop-j
invariant-loop-j g l = record {
  extends : (f : Fact) → Stands l.fn.marks.calls l.row f → ExtendsIf (g.P.Program.graph l.program) (Reach (g.P.Program.graph l.program) f) l.fn.marks l.marks;
  covers : Covers l.marks (g.P.Program.graph l.program).keys;
  same : SameRows l.fn.marks l.marks;
  kept : (j : ℕ) (d : Targets) → j < l.j → AllKept (g.P.Program.graph l.program) l.marks (get_or (methods_at l.fn.marks.rows.items l.row) j d);
}
