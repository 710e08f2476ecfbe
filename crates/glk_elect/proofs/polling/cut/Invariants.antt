use Rattle.std.proofs.Common.{◌≤◌, ◌-◌}
use Rattle.glk_elect.proofs.polling.cut.Given as goal

abbrev pub invariant-loop-low : goal.invariant-loop-low
invariant-loop-low g l = record {
  after : l.from ≤ l.low;
  order : l.low ≤ l.high;
  before : l.high ≤ l.to;
}

abbrev pub decreases-loop-low : goal.decreases-loop-low
decreases-loop-low g l = l.high - l.low
