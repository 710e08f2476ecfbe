use Rattle.std.proofs.Common.{◌≡◌, take}
use Rattle.std.specs.List.{sum_by}
use Rattle.glk_obj.specs.Records.{symbols}
use Rattle.glk_arena.proofs.stored.LoadedPackage.symbols.Given as goal

abbrev pub invariant-loop-i : goal.invariant-loop-i
invariant-loop-i l = l.symbols ≡ sum_by symbols (take l.i l.self.objects)
