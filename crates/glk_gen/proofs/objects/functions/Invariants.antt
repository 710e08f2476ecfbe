use Rattle.std.proofs.Common.{◌≡◌, map}
use Rattle.std.specs.List.{range_with_len}
use Rattle.glk_gen.specs.Packages.{first_function}
use Rattle.glk_gen.specs.Objects.{function_of}
use Rattle.glk_gen.proofs.objects.functions.Given as goal

abbrev pub invariant-loop-i : goal.invariant-loop-i
invariant-loop-i l =
    l.defs.items ≡ map (function_of l.calls.seed l.calls.functions l.k) (range_with_len (first_function l.k) l.i)
