use Rattle.glk_order.proofs.Starts.{AreCounted}
use Rattle.glk_order.proofs.order.edge_counts.Given as goal

abbrev pub invariant-loop-edge : goal.invariant-loop-edge
invariant-loop-edge l = AreCounted l.count l.edges l.edge-index l.counts.items
