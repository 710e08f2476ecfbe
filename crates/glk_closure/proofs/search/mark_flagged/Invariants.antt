use Rattle.std.proofs.Common.{◌<◌, ℕ}
use Rattle.std.specs.Prelude.{IsTrue}
use Rattle.glk_closure.specs.Reach.{Iface}
use Rattle.glk_closure.specs.Marks.{Holds, Extends}
use Rattle.glk_closure.proofs.search.mark_flagged.Given as goal

abbrev pub invariant-loop-key : goal.invariant-loop-key
invariant-loop-key g l = record {
  extends : Extends (g.P.Program.graph l.program) l.fn.marks l.marks;
  flagged : (k : ℕ) → k < l.key → IsTrue ((g.P.Program.graph l.program).flagged k) → IsTrue ((g.P.Program.graph l.program).defined k) → Holds l.marks (Iface k);
}
