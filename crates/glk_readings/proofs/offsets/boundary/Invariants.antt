use Rattle.std.proofs.Common.{◌-◌}
use Rattle.glk_readings.proofs.OffsetLemmas.{IsBetween}
use Rattle.glk_readings.proofs.offsets.boundary.Given as goal

abbrev pub invariant-loop-low : goal.invariant-loop-low
invariant-loop-low g l = IsBetween (g.R.Relocations.list l.relocs) l.offset l.low l.high

abbrev pub decreases-loop-low : goal.decreases-loop-low
decreases-loop-low g l = l.high - l.low
