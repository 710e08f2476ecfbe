use Rattle.std.proofs.Common.{◌≡◌, take}
use Rattle.glk_readings.specs.Offsets.{targets_of}
use Rattle.glk_readings.proofs.offsets.targets.Given as goal

abbrev pub invariant-loop-i : goal.invariant-loop-i
invariant-loop-i g l = l.pairs.items ≡ targets_of 0 (take l.i (g.R.Relocations.list l.relocs))
