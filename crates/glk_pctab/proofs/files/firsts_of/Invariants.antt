use Rattle.std.proofs.Common.{◌≡◌, ◌+◌, ◌++◌, length}
use Rattle.glk_pctab.specs.Section.{files_of}
use Rattle.glk_pctab.specs.Views.{units_view}
use Rattle.glk_pctab.specs.Building.{firsts_from}
use Rattle.glk_pctab.proofs.files.firsts_of.Given as goal

abbrev pub invariant-loop-rest : goal.invariant-loop-rest
invariant-loop-rest l = record {
  firsts : l.firsts.items ++ firsts_from l.index (units_view l.rest) ≡ firsts_from 0 (units_view l.units);
  index : l.index + length (files_of (units_view l.rest)) ≡ length (files_of (units_view l.units));
}

abbrev pub decreases-loop-rest : goal.decreases-loop-rest
decreases-loop-rest l = length l.rest
