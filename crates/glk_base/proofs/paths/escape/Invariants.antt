use Rattle.std.proofs.Common.{◌≡◌, ◌++◌, drop}
use Rattle.glk_base.specs.Paths.{escaped_spelling, escaped_spelling_from}
use Rattle.glk_base.proofs.paths.escape.Given as goal

abbrev pub invariant-loop-i : goal.invariant-loop-i
invariant-loop-i l = l.out.items ++ escaped_spelling_from l.base l.i (drop l.i l.path) ≡ escaped_spelling l.path
