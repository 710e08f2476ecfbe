use Rattle.std.proofs.Common.{◌≡◌, drop, map}
use Rattle.glk_tables.specs.Rules.{any, is_no_table}
use Rattle.glk_tables.specs.Views.{target_view}
use Rattle.glk_tables.proofs.rules.any_no_table.Given as goal

abbrev pub invariant-loop-target : goal.invariant-loop-target
invariant-loop-target l = any is_no_table (map target_view (drop l.target-index l.targets)) ≡ any is_no_table (map target_view l.targets)
