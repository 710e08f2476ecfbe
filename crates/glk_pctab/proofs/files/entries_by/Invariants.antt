use Rattle.std.proofs.Common.{◌≡◌, ◌++◌, drop}
use Rattle.glk_pctab.specs.Views.{texts_of}
use Rattle.glk_pctab.specs.Building.{entries_view, entries_by}
use Rattle.glk_pctab.proofs.files.entries_by.Given as goal

abbrev pub invariant-loop-index : goal.invariant-loop-index
invariant-loop-index l = entries_view l.entries.items ++ entries_by l.named l.index (drop l.index (texts_of l.files)) ≡ entries_by l.named 0 (texts_of l.files)
