use Rattle.std.proofs.Common.{◌<◌, length}
use Rattle.std.specs.Option.{IfSome}
use Rattle.glk_order.proofs.LevelLaws.{AreLevels}
use Rattle.glk_order.proofs.levels.least_within_level.Given as goal

abbrev pub invariant-loop-edge : goal.invariant-loop-edge
invariant-loop-edge l = record {
  inside : IfSome l.least (λ task. task < length l.levels);
  are_levels : AreLevels l.edges l.levels l.edge-index l.least;
}
