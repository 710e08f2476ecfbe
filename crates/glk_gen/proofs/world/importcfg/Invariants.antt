use Rattle.std.proofs.Common.{◌≡◌}
use Rattle.std.specs.Prelude.{flat_map}
use Rattle.std.specs.List.{range_with_len}
use Rattle.glk_gen.specs.Configs.{config_line}
use Rattle.glk_gen.proofs.world.importcfg.Given as goal

abbrev pub invariant-loop-k : goal.invariant-loop-k
invariant-loop-k l = l.out.items ≡ flat_map config_line (range_with_len 0 l.k)
