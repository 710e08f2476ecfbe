use Rattle.glk_order.proofs.EdgeChains.{bound_of}
use Rattle.glk_order.proofs.Searches.{IsSeeing}
use Rattle.glk_order.proofs.search.see_targets.Given as goal

abbrev pub invariant-loop-at : goal.invariant-loop-at
invariant-loop-at l = IsSeeing l.needs.edges.now l.task l.fn.seen l.seen l.fn.work.items l.work.items l.at

abbrev pub decreases-loop-at : goal.decreases-loop-at
decreases-loop-at l = bound_of l.at
