use Rattle.std.proofs.Common.{rules}
use Rattle.glk_elf.specs.ReaderViews.{symbol_record}
use Rattle.glk_nm.specs.Listing.{lines_of, listed_symbols}
use Rattle.glk_pending.proofs.WritingLemmas.{fails_after}
use Rattle.glk_nm.proofs.ListingLemmas.{table_more, table_fails}
use Rattle.glk_nm.proofs.print.write_table.Goals as goal

pub loop-k-preserved : goal.loop-k-preserved
loop-k-preserved g c =
    table_more _ _ _ c.args.pending.now c.loop-k.pending c.write_listed.new.pending c.args.view.now c.args.with_size c.loop-k.k
    (symbol_record c.symbol-symbol.result) c.symbol-symbol.ensures c.loop-k.invariant c.in_ok-write_listed.ensures

pub returns-in_err-write_listed : goal.returns-in_err-write_listed
returns-in_err-write_listed g c =
    fails_after _ _ c.args.pending.now c.write_listed.new.pending (lines_of c.args.view.now c.args.with_size (listed_symbols c.args.view.now))
    c.from_residual.result _ c.from_residual.ensures.1
    (table_fails _ _ _ c.args.pending.now c.loop-k.pending c.write_listed.new.pending c.args.view.now c.args.with_size c.loop-k.k
    (symbol_record c.symbol-symbol.result) c.symbol-symbol.ensures c.loop-k.invariant (search rules) c.in_err-write_listed.ensures)
