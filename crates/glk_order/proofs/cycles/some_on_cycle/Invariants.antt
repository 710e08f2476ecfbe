use Rattle.std.proofs.Common.{◌≡◌, ◌<◌, ℕ, true, false, not, length, get_or}
use Rattle.std.specs.List.{count_by}
use Rattle.glk_order.specs.Order.{Reaches}
use Rattle.glk_order.specs.Progress.{is_listed}
use Rattle.glk_order.proofs.cycles.some_on_cycle.Given as goal

abbrev pub invariant-loop-seen : goal.invariant-loop-seen
invariant-loop-seen l = record {
  size : length l.seen.items ≡ length l.listed;
  inside : l.at < length l.listed;
  unlisted : is_listed l.listed l.at ≡ false;
  walks : (p : ℕ) → get_or l.seen.items p false ≡ true → Reaches l.needs.edges.now p l.at;
}

abbrev pub decreases-loop-seen : goal.decreases-loop-seen
decreases-loop-seen l = count_by not l.seen.items
