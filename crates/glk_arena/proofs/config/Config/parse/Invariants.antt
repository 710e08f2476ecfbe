use Rattle.glk_base.specs.Lines.{lines, left_size}
use Rattle.glk_arena.specs.ConfigViews.{file_in}
use Rattle.glk_arena.proofs.ConfigLemmas.{HasTaken}
use Rattle.glk_arena.proofs.config.Config.parse.Given as goal

abbrev pub invariant-loop-rest : goal.invariant-loop-rest
invariant-loop-rest l = HasTaken (lines l.text) l.rest l.number (file_in l.config)

abbrev pub decreases-loop-rest : goal.decreases-loop-rest
decreases-loop-rest l = left_size l.rest
