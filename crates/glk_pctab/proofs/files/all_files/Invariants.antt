use Rattle.std.proofs.Common.{◌≡◌, ◌++◌, length}
use Rattle.glk_pctab.specs.Section.{files_of}
use Rattle.glk_pctab.specs.Views.{texts_of, units_view}
use Rattle.glk_pctab.proofs.files.all_files.Given as goal

abbrev pub invariant-loop-rest : goal.invariant-loop-rest
invariant-loop-rest l = texts_of l.files.items ++ files_of (units_view l.rest) ≡ files_of (units_view l.units)

abbrev pub decreases-loop-rest : goal.decreases-loop-rest
decreases-loop-rest l = length l.rest
