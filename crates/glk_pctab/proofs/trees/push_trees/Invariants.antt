use Rattle.std.proofs.Common.{◌≡◌, ◌++◌, length}
use Rattle.glk_pctab.specs.Section.{trees_of}
use Rattle.glk_pctab.specs.Views.{functions_view}
use Rattle.glk_pctab.proofs.trees.push_trees.Given as goal

abbrev pub invariant-loop-rest : goal.invariant-loop-rest
invariant-loop-rest l =
    l.out.items ++ trees_of l.names.elements (functions_view l.rest) ≡ l.fn.out.items ++ trees_of l.names.elements (functions_view l.functions)

abbrev pub decreases-loop-rest : goal.decreases-loop-rest
decreases-loop-rest l = length l.rest
