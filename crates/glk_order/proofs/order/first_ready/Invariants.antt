use Rattle.glk_order.proofs.Starts.{AreFirst}
use Rattle.glk_order.proofs.order.first_ready.Given as goal

abbrev pub invariant-loop-task : goal.invariant-loop-task
invariant-loop-task l = AreFirst l.task l.open_counts l.ready
