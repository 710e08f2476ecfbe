use Rattle.glk_base.specs.Lines.{lines, left_size}
use Rattle.glk_arena.proofs.BuiltinLemmas.{HasListed}
use Rattle.glk_arena.proofs.builtins.Builtins.parse.Given as goal

abbrev pub invariant-loop-rest : goal.invariant-loop-rest
invariant-loop-rest l = HasListed (lines l.text) l.builtins l.rest l.number

abbrev pub decreases-loop-rest : goal.decreases-loop-rest
decreases-loop-rest l = left_size l.rest
