use Rattle.std.proofs.Common.{◌≡◌, ◌++◌, map, length}
use Rattle.glk_frames.specs.Written.{tree_bytes}
use Rattle.glk_pctab.specs.Section.{tree_entry_of}
use Rattle.glk_pctab.specs.Views.{calls_view}
use Rattle.glk_pctab.proofs.trees.push_tree.Given as goal

abbrev pub invariant-loop-rest : goal.invariant-loop-rest
invariant-loop-rest l =
    l.out.items ++ tree_bytes (map (tree_entry_of l.names.elements) (calls_view l.rest))
    ≡ l.fn.out.items ++ tree_bytes (map (tree_entry_of l.names.elements) (calls_view l.calls))

abbrev pub decreases-loop-rest : goal.decreases-loop-rest
decreases-loop-rest l = length l.rest
