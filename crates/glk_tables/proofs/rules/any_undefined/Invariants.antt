use Rattle.std.proofs.Common.{◌≡◌, length, map}
use Rattle.glk_tables.specs.Rules.{any, is_undefined}
use Rattle.glk_tables.specs.Views.{target_view}
use Rattle.glk_tables.proofs.rules.any_undefined.Given as goal

abbrev pub invariant-loop-rest : goal.invariant-loop-rest
invariant-loop-rest l = any is_undefined (map target_view l.rest) ≡ any is_undefined (map target_view l.fn.targets)

abbrev pub decreases-loop-rest : goal.decreases-loop-rest
decreases-loop-rest l = length l.rest
