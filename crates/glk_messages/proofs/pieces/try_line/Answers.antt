use Rattle.glk_messages.specs.Pieces.{spelled_pieces}
use Rattle.glk_messages.proofs.PieceLemmas.{name_fails, text_fails, line_ends}
use Rattle.glk_io.proofs.SinkLemmas.{fails_anyway}
use Rattle.glk_messages.proofs.pieces.try_line.Goals as goal

pub returns-in_err-write_all : goal.returns-in_err-write_all
returns-in_err-write_all g c =
    fails_anyway _ _ _ c.from_residual.result _ c.from_residual.ensures.1
    (name_fails _ _ (spelled_pieces c.args.pieces.now) c.in_err-write_all.ensures.prefix)

pub returns-in_err-write_each : goal.returns-in_err-write_each
returns-in_err-write_each g c =
    fails_anyway _ _ _ c.from_residual-in_err-write_each.result _ c.from_residual-in_err-write_each.ensures.1
    (text_fails _ _ _ (spelled_pieces c.args.pieces.now) c.in_ok-write_all.ensures.whole c.in_err-write_each.ensures)

pub returns : goal.returns
returns g c =
    line_ends _ _ _ _ (spelled_pieces c.args.pieces.now) c.write_all-2.result c.in_ok-write_all.ensures.whole c.in_ok-write_each.ensures
    c.write_all-2.ensures.whole c.write_all-2.ensures.prefix
