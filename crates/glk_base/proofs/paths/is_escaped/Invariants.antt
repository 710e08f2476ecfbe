use Rattle.std.proofs.Common.{◌≡◌, ◌↔◌, drop}
use Rattle.glk_base.specs.Paths.{escaped_spelling, escaped_spelling_from}
use Rattle.glk_base.proofs.paths.is_escaped.Given as goal

abbrev pub invariant-loop-i : goal.invariant-loop-i
invariant-loop-i l = (l.stored ≡ escaped_spelling l.path) ↔ (l.rest ≡ escaped_spelling_from l.base l.i (drop l.i l.path))
