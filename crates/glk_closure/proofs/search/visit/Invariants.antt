use Rattle.std.proofs.Common.{◌≡◌, ◌<◌, ℕ, false, get_or, Some}
use Rattle.std.specs.Prelude.{IsTrue, slice_get}
use Rattle.glk_closure.specs.Graph.{Effect}
use Rattle.glk_closure.specs.Reach.{Kept, Reflect}
use Rattle.glk_closure.specs.Marks.{Holds, Extends}
use Rattle.glk_closure.specs.Search.{IsGiven}
use Rattle.glk_closure.proofs.search.visit.Given as goal

abbrev pub invariant-loop-i : goal.invariant-loop-i
invariant-loop-i g l = record {
  extends : Extends (g.P.Program.graph l.program) l.fn.marks l.marks;
  kept : Holds l.fn.marks (Kept l.key);
  iface : l.iface ≡ get_or l.fn.marks.iface l.key false;
  given : (j : ℕ) → j < l.i → (e : Effect) → slice_get ((g.P.Program.graph l.program).effects l.key) j ≡ Some e → IsGiven (g.P.Program.graph l.program) l.iface l.marks e;
  reflects : IsTrue ((g.P.Program.graph l.program).reflects l.key) → Holds l.marks Reflect;
}
