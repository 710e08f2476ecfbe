use Rattle.glk_nm.specs.Listing.{lines_of, listed_symbols}
use Rattle.glk_pending.proofs.WritingLemmas.{flushed, unflushed}
use Rattle.glk_nm.proofs.print.print_table.Goals as goal

pub returns-in_err-write_table : goal.returns-in_err-write_table
returns-in_err-write_table g c =
    unflushed _ _ c.args.pending (lines_of c.args.view.now c.args.with_size (listed_symbols c.args.view.now)) c.from_residual.result _ c.from_residual.ensures.1 c.requires c.in_err-write_table.ensures

pub returns : goal.returns
returns g c =
    flushed _ _ _ c.args.pending c.write_table.new.pending (lines_of c.args.view.now c.args.with_size (listed_symbols c.args.view.now)) c.flush.result c.requires c.in_ok-write_table.ensures c.flush.ensures.whole c.flush.ensures.prefix
