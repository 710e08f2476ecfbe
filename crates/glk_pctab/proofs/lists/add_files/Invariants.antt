use Rattle.std.proofs.Common.{◌≡◌, length}
use Rattle.glk_pctab.specs.Contents.{with_all}
use Rattle.glk_pctab.specs.Section.{named_files}
use Rattle.glk_pctab.specs.Building.{entries_view}
use Rattle.glk_pctab.proofs.lists.add_files.Given as goal

abbrev pub invariant-loop-rest : goal.invariant-loop-rest
invariant-loop-rest l = with_all l.pool (named_files (entries_view l.rest)) ≡ with_all l.fn.pool (named_files (entries_view l.entries))

abbrev pub decreases-loop-rest : goal.decreases-loop-rest
decreases-loop-rest l = length l.rest
