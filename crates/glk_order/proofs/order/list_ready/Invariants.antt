use Rattle.std.proofs.Common.{not}
use Rattle.std.specs.List.{count_by}
use Rattle.glk_order.proofs.Closing.{IsListing}
use Rattle.glk_order.proofs.order.list_ready.Given as goal

abbrev pub invariant-loop-task : goal.invariant-loop-task
invariant-loop-task l = IsListing l.count l.edges l.list.items l.listed.items l.open_counts.items l.ready

abbrev pub decreases-loop-task : goal.decreases-loop-task
decreases-loop-task l = count_by not l.listed.items
