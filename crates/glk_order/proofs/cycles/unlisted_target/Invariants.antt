use Rattle.std.proofs.Common.{◌≡◌, true}
use Rattle.glk_order.specs.declared.edges.End.TheVariants.{Task}
use Rattle.glk_order.specs.Chains.{edge_at}
use Rattle.glk_order.specs.Progress.{is_listed}
use Rattle.glk_order.proofs.EdgeChains.{bound_of, IsOnChain, EachBehind}
use Rattle.glk_order.proofs.cycles.unlisted_target.Given as goal

abbrev pub invariant-loop-at : goal.invariant-loop-at
invariant-loop-at l = record {
  chain : IsOnChain Task l.needs.edges.now l.task l.at;
  behind : EachBehind Task l.needs.edges.now l.task l.at (λ e. is_listed l.listed (edge_at l.needs.edges.now e).target ≡ true);
}

abbrev pub decreases-loop-at : goal.decreases-loop-at
decreases-loop-at l = bound_of l.at
