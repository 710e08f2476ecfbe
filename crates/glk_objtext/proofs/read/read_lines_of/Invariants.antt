use Rattle.std.proofs.Common.{◌≡◌}
use Rattle.glk_base.specs.Lines.{left_lines, left_size}
use Rattle.glk_objtext.specs.Reading.{read_lines, read_text}
use Rattle.glk_objtext.specs.Building.{answer_with}
use Rattle.glk_objtext.proofs.read.read_lines_of.Given as goal

abbrev pub invariant-loop-rest : goal.invariant-loop-rest
invariant-loop-rest l = answer_with l.reader.builder (read_lines l.line l.reader.stage (left_lines l.rest)) ≡ read_text l.text

abbrev pub decreases-loop-rest : goal.decreases-loop-rest
decreases-loop-rest l = left_size l.rest
