use Rattle.std.proofs.Common.{◌≡◌, ◌∷◌, map}
use Rattle.std.specs.List.{range_with_len}
use Rattle.glk_gen.specs.Worlds.{main_archive, package_archive}
use Rattle.glk_gen.proofs.world.archives.Given as goal

abbrev pub invariant-loop-k : goal.invariant-loop-k
invariant-loop-k l =
    l.archives.items ≡ main_archive l.calls.functions ∷ map (package_archive l.calls.seed l.calls.functions) (range_with_len 0 l.k)
