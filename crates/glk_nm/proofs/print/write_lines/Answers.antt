use Rattle.glk_pending.proofs.WritingLemmas.{fails_after}
use Rattle.glk_nm.proofs.ListingLemmas.{row_lines, rows_more, rows_fail}
use Rattle.glk_nm.proofs.print.write_lines.Goals as goal

pub loop-symbol-preserved : goal.loop-symbol-preserved
loop-symbol-preserved g c =
    rows_more _ _ _ c.args.pending.now c.loop-symbol.pending c.write_line.new.pending c.args.view.now c.args.with_size c.args.rows.now c.loop-symbol.symbol-index
    _ c.loop-symbol-test.true c.loop-symbol.invariant c.in_ok-write_line.ensures

pub returns-in_err-write_line : goal.returns-in_err-write_line
returns-in_err-write_line g c =
    fails_after _ _ c.args.pending.now c.write_line.new.pending (row_lines c.args.view.now c.args.with_size c.args.rows.now)
    c.from_residual.result _ c.from_residual.ensures.1
    (rows_fail _ _ _ c.args.pending.now c.loop-symbol.pending c.write_line.new.pending c.args.view.now c.args.with_size c.args.rows.now c.loop-symbol.symbol-index
    _ c.loop-symbol-test.true c.loop-symbol.invariant c.in_err-write_line.ensures)
