use Rattle.std.proofs.Common.{◌++◌, take}
use Rattle.glk_io.specs.Streams.{joined}
use Rattle.glk_pending.specs.Writing.{IsPartlyWritten}
use Rattle.glk_pending.proofs.pending.Pending.write_each.Given as goal

abbrev pub invariant-loop-text : goal.invariant-loop-text
invariant-loop-text g l =
    IsPartlyWritten (g.O.Sink.state l.fn.out) (g.O.Sink.state l.out) (l.fn.self ++ joined (take l.text-index l.texts)) l.self
