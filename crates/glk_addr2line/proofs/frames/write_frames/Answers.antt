use Rattle.std.proofs.Common.{◌++◌, ap}
use Rattle.glk_frames_reader.specs.Views.{frame_view}
use Rattle.glk_addr2line.specs.Texts.{frame_text, frames_text}
use Rattle.glk_pending.proofs.WritingLemmas.{left_more, left_fails, fails_after}
use Rattle.glk_addr2line.proofs.frames.write_frames.Goals as goal

pub loop-frame-preserved : goal.loop-frame-preserved
loop-frame-preserved g c =
    left_more _ _ _ (c.args.pending.now ++ frames_text c.args.frames) c.loop-frame.pending (frames_text c.loop-frame.frames) (frame_text (frame_view c.in-Some.frame))
    (frames_text c.next.new.self) (ap frames_text c.in-Some.ensures.steps) c.loop-frame.invariant c.write_frame.new.pending c.in_ok-write_frame.ensures

pub returns-in_err-write_frame : goal.returns-in_err-write_frame
returns-in_err-write_frame g c =
    fails_after _ _ c.args.pending.now c.write_frame.new.pending (frames_text c.args.frames) c.from_residual.result _ c.from_residual.ensures.1
    (left_fails _ _ _ (c.args.pending.now ++ frames_text c.args.frames) c.loop-frame.pending (frames_text c.loop-frame.frames) (frame_text (frame_view c.in-Some.frame))
    (frames_text c.next.new.self) (ap frames_text c.in-Some.ensures.steps) c.loop-frame.invariant c.in_err-write_frame.ensures)
