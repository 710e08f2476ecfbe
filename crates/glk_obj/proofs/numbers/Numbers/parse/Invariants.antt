use Rattle.glk_base.specs.Lines.{lines, left_size}
use Rattle.glk_obj.proofs.NumberLines.{Parsed}
use Rattle.glk_obj.proofs.numbers.Numbers.parse.Given as goal

abbrev pub invariant-loop-rest : goal.invariant-loop-rest
invariant-loop-rest l = Parsed (lines l.text) l.table l.rest l.number

abbrev pub decreases-loop-rest : goal.decreases-loop-rest
decreases-loop-rest l = left_size l.rest
