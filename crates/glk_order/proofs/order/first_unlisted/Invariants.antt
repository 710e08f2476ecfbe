use Rattle.std.proofs.Common.{◌≡◌, ◌<◌, ℕ, true}
use Rattle.glk_order.specs.Progress.{is_listed}
use Rattle.glk_order.proofs.order.first_unlisted.Given as goal

abbrev pub invariant-loop-task : goal.invariant-loop-task
invariant-loop-task l = (t : ℕ) → t < l.task → is_listed l.listed t ≡ true
