use Rattle.std.proofs.Common.{take}
use Rattle.std.specs.List.{concat}
use Rattle.glk_io.specs.Changes.{SinkAppends}
use Rattle.glk_messages.specs.Pieces.{spelled_pieces}
use Rattle.glk_messages.proofs.pieces.write_each.Given as goal

abbrev pub invariant-loop-piece : goal.invariant-loop-piece
invariant-loop-piece g l =
    SinkAppends (g.S.Sink.state l.fn.sink) (g.S.Sink.state l.sink) (concat (spelled_pieces (take l.piece-index l.pieces)))
