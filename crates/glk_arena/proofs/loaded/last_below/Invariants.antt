use Rattle.std.proofs.Common.{◌-◌, ◌<◌, ◌≤◌, length, get_or}
use Rattle.glk_arena.proofs.loaded.last_below.Given as goal

abbrev pub invariant-loop-high : goal.invariant-loop-high
invariant-loop-high l = record {
  some : l.low < l.high;
  inside : l.high ≤ length l.rows;
  low_is : get_or l.rows l.low 0 ≤ l.r;
  high_is : l.high < length l.rows → l.r < get_or l.rows l.high 0;
}

abbrev pub decreases-loop-high : goal.decreases-loop-high
decreases-loop-high l = l.high - l.low
