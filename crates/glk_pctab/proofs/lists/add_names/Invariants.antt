use Rattle.std.proofs.Common.{◌≡◌, length}
use Rattle.glk_pctab.specs.Contents.{with_all}
use Rattle.glk_pctab.specs.Section.{names_of}
use Rattle.glk_pctab.specs.Views.{functions_view}
use Rattle.glk_pctab.proofs.lists.add_names.Given as goal

abbrev pub invariant-loop-rest : goal.invariant-loop-rest
invariant-loop-rest l = with_all l.pool (names_of (functions_view l.rest)) ≡ with_all l.fn.pool (names_of (functions_view l.functions))

abbrev pub decreases-loop-rest : goal.decreases-loop-rest
decreases-loop-rest l = length l.rest
