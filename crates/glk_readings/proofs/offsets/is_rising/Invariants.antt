use Rattle.glk_readings.proofs.OffsetLemmas.{IsRisingTo}
use Rattle.glk_readings.proofs.offsets.is_rising.Given as goal

abbrev pub invariant-loop-i : goal.invariant-loop-i
invariant-loop-i g l = IsRisingTo (g.R.Relocations.list l.relocs) l.i l.least
