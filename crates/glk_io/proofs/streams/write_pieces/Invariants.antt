use Rattle.glk_io.specs.Changes.{SinkAppends}
use Rattle.std.proofs.Common.{take}
use Rattle.glk_io.specs.Streams.{joined}
use Rattle.glk_io.proofs.streams.write_pieces.Given as goal

abbrev pub invariant-loop-piece : goal.invariant-loop-piece
invariant-loop-piece g l =
    SinkAppends (g.S.Sink.state l.fn.sink) (g.S.Sink.state l.sink) (joined (take l.piece-index l.pieces))
