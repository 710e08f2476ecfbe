use Rattle.std.proofs.Common.{below_more}
use Rattle.std.specs.Prelude.{IsTrue}
use Rattle.glk_closure.specs.Graph.{Graph}
use Rattle.glk_closure.specs.Reach.{Iface}
use Rattle.glk_closure.specs.Marks.{Holds}
use Rattle.glk_closure.proofs.Growth.{Extends-trans}
use Rattle.glk_closure.proofs.search.mark_flagged.Goals as goal

pub mark_if_flagged-requires-clause-covers : goal.mark_if_flagged-requires-clause-covers
mark_if_flagged-requires-clause-covers g c = c.loop-key.invariant.extends.covers c.requires.covers

pub loop-key-preserved : goal.loop-key-preserved
loop-key-preserved g c =
    let w : Graph = g.P.Program.graph c.args.program.now in
    let inv = c.loop-key.invariant in
    let x = c.in_ok-mark_if_flagged.ensures.extends in
    record {
      extends = Extends-trans inv.extends x;
      flagged = below_more (λ k. IsTrue (w.flagged k) → IsTrue (w.defined k) → Holds c.mark_if_flagged.new.marks (Iface k)) c.loop-key.key (λ k l f d. x.grows.keeps (Iface k) (inv.flagged k l f d)) c.in_ok-mark_if_flagged.ensures.flagged;
    }
