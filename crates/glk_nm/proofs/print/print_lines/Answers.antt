use Rattle.std.proofs.Common.{map}
use Rattle.glk_elf.specs.ReaderViews.{symbol_record}
use Rattle.glk_nm.specs.Listing.{lines_of}
use Rattle.glk_pending.proofs.WritingLemmas.{flushed, unflushed}
use Rattle.glk_nm.proofs.print.print_lines.Goals as goal

pub returns-in_err-write_lines : goal.returns-in_err-write_lines
returns-in_err-write_lines g c =
    unflushed _ _ c.args.pending (lines_of c.args.view.now c.args.with_size (map symbol_record c.args.rows.now)) c.from_residual.result _ c.from_residual.ensures.1 c.requires c.in_err-write_lines.ensures

pub returns : goal.returns
returns g c =
    flushed _ _ _ c.args.pending c.write_lines.new.pending (lines_of c.args.view.now c.args.with_size (map symbol_record c.args.rows.now)) c.flush.result c.requires c.in_ok-write_lines.ensures c.flush.ensures.whole c.flush.ensures.prefix
