use Rattle.std.proofs.Common.{◌++◌}
use Rattle.glk_pending.specs.Writing.{IsPartlyWritten}
use Rattle.glk_addr2line.specs.Texts.{frames_text}
use Rattle.glk_addr2line.proofs.frames.write_frames.Given as goal

abbrev pub invariant-loop-frame : goal.invariant-loop-frame
invariant-loop-frame g l =
    IsPartlyWritten (g.O.Sink.state l.fn.out) (g.O.Sink.state l.out) (l.fn.pending ++ frames_text l.fn.frames) (l.pending ++ frames_text l.frames)
