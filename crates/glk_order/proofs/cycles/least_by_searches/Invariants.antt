use Rattle.std.proofs.Common.{◌<◌, ℕ}
use Rattle.glk_order.specs.Order.{IsOnCycle}
use Rattle.glk_order.proofs.cycles.least_by_searches.Given as goal

abbrev pub invariant-loop-task : goal.invariant-loop-task
invariant-loop-task l = (u : ℕ) → u < l.task → IsOnCycle l.needs.edges.now u → ⊥
