use Rattle.std.proofs.Common.{◌≡◌, ◌++◌, length}
use Rattle.glk_pctab.specs.Section.{starts}
use Rattle.glk_pctab.specs.Views.{functions_view}
use Rattle.glk_pcln.proofs.pieces.starts_of.Given as goal

abbrev pub invariant-loop-rest : goal.invariant-loop-rest
invariant-loop-rest l = l.list.items ++ starts (functions_view l.rest) ≡ starts (functions_view l.fn.functions)

abbrev pub decreases-loop-rest : goal.decreases-loop-rest
decreases-loop-rest l = length l.rest
