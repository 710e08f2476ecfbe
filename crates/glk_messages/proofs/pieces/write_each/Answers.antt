use Rattle.glk_messages.proofs.PieceLemmas.{each_more, each_fails}
use Rattle.glk_io.proofs.SinkLemmas.{fails_anyway}
use Rattle.glk_messages.proofs.pieces.write_each.Goals as goal

pub loop-piece-preserved : goal.loop-piece-preserved
loop-piece-preserved g c =
    each_more _ _ _ c.args.pieces.now c.loop-piece.piece-index c.piece-item.result c.piece-item.is c.loop-piece-test.true
    c.loop-piece.invariant c.in_ok-write_piece.ensures

pub returns-in_err-write_piece : goal.returns-in_err-write_piece
returns-in_err-write_piece g c =
    fails_anyway _ _ _ c.from_residual.result _ c.from_residual.ensures.1
    (each_fails _ _ _ c.args.pieces.now c.loop-piece.piece-index c.piece-item.result c.piece-item.is c.loop-piece-test.true
    c.loop-piece.invariant c.in_err-write_piece.ensures)
