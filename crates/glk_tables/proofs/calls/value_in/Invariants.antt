use Rattle.std.proofs.Common.{◌-◌, ◌<◌, ◌≤◌, ℕ, length, get_or, pos}
use Rattle.glk_tables.proofs.calls.value_in.Given as goal

abbrev pub invariant-loop-low : goal.invariant-loop-low
invariant-loop-low l = record {
  inside : l.high ≤ length l.list;
  ordered : l.low ≤ l.high;
  below : (j : ℕ) → j < l.low → (get_or l.list j (pos 0, 0)).1 ≤ l.off;
  above : (j : ℕ) → l.high ≤ j → j < length l.list → l.off < (get_or l.list j (pos 0, 0)).1;
}

abbrev pub decreases-loop-low : goal.decreases-loop-low
decreases-loop-low l = l.high - l.low
