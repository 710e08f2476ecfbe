use Rattle.std.proofs.Common.{◌++◌, take}
use Rattle.glk_pending.specs.Writing.{IsPartlyWritten}
use Rattle.glk_nm.proofs.ListingLemmas.{row_lines}
use Rattle.glk_nm.proofs.print.write_lines.Given as goal

abbrev pub invariant-loop-symbol : goal.invariant-loop-symbol
invariant-loop-symbol g l =
    IsPartlyWritten (g.O.Sink.state l.fn.out) (g.O.Sink.state l.out) (l.fn.pending ++ row_lines l.view l.with_size (take l.symbol-index l.rows)) l.pending
