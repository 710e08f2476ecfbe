use Rattle.std.proofs.Common.{◌<◌, ℕ, get_or}
use Rattle.glk_order.specs.declared.edges.Edge.{Edge}
use Rattle.glk_order_tests.proofs.tests.are_edges.Given as goal

abbrev pub invariant-loop-edge : goal.invariant-loop-edge
invariant-loop-edge l = (k : ℕ) (d : Edge) → k < l.edge-index → ((get_or l.edges k d).task < l.count) × ((get_or l.edges k d).target < l.count)
