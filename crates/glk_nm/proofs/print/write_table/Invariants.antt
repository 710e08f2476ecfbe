use Rattle.std.proofs.Common.{◌++◌}
use Rattle.glk_nm.specs.Listing.{first_symbols}
use Rattle.glk_pending.specs.Writing.{IsPartlyWritten}
use Rattle.glk_nm.proofs.ListingLemmas.{table_lines}
use Rattle.glk_nm.proofs.print.write_table.Given as goal

abbrev pub invariant-loop-k : goal.invariant-loop-k
invariant-loop-k g l =
    IsPartlyWritten (g.O.Sink.state l.fn.out) (g.O.Sink.state l.out) (l.fn.pending ++ table_lines l.view l.with_size (first_symbols l.view l.k)) l.pending
