use Rattle.std.proofs.Common.{◌≡◌, take}
use Rattle.glk_readings.specs.Readings.{methodoff_offsets}
use Rattle.glk_readings.proofs.methods.methodoff_offsets.Given as goal

abbrev pub invariant-loop-i : goal.invariant-loop-i
invariant-loop-i g l = l.out.items ≡ methodoff_offsets (take l.i ((g.S.Symbols.table l.symbols).relocs l.key))
