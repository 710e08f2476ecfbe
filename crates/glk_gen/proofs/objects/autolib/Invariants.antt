use Rattle.std.proofs.Common.{◌≡◌, map}
use Rattle.std.specs.List.{range_with_len}
use Rattle.glk_gen.specs.Objects.{autolib_of}
use Rattle.glk_gen.proofs.objects.autolib.Given as goal

abbrev pub invariant-loop-k : goal.invariant-loop-k
invariant-loop-k l = l.autolib.items ≡ map autolib_of (range_with_len 0 l.k)
