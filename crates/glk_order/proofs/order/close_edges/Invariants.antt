use Rattle.std.proofs.Common.{length}
use Rattle.glk_order.proofs.EdgeChains.{bound_of}
use Rattle.glk_order.proofs.Closing.{IsClosing}
use Rattle.glk_order.proofs.order.close_edges.Given as goal

abbrev pub invariant-loop-at : goal.invariant-loop-at
invariant-loop-at l = IsClosing (length l.users.lasts.items) l.users.edges.now l.task l.fn.listed l.open_counts l.ready l.at

abbrev pub decreases-loop-at : goal.decreases-loop-at
decreases-loop-at l = bound_of l.at
