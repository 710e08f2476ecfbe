use Rattle.std.proofs.Common.{◌++◌}
use Rattle.glk_base.specs.Lines.{left_lines, left_size}
use Rattle.glk_pending.specs.Writing.{IsPartlyWritten}
use Rattle.glk_addr2line.specs.Lines.{without_empty_end}
use Rattle.glk_addr2line.specs.Texts.{input_text, lines_text}
use Rattle.glk_addr2line.proofs.print.write_answers.Given as goal

abbrev pub invariant-loop-rest : goal.invariant-loop-rest
invariant-loop-rest g l =
    IsPartlyWritten (g.O.Sink.state l.fn.out) (g.O.Sink.state l.out) (l.fn.pending ++ input_text l.functions l.inline l.input)
    (l.pending ++ lines_text l.functions l.inline (without_empty_end (left_lines l.rest)))

abbrev pub decreases-loop-rest : goal.decreases-loop-rest
decreases-loop-rest g l = left_size l.rest
