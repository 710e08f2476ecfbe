use Rattle.glk_io.specs.Streams.{joined}
use Rattle.glk_pending.proofs.WritingLemmas.{each_more, each_fails, fails_after}
use Rattle.glk_pending.proofs.pending.Pending.write_each.Goals as goal

pub loop-text-preserved : goal.loop-text-preserved
loop-text-preserved g c =
    each_more _ _ _ c.args.self.now c.loop-text.self c.write.new.self c.args.texts.now c.loop-text.text-index _ c.loop-text-test.true
    c.loop-text.invariant c.in_ok-write.ensures

pub returns-in_err-write : goal.returns-in_err-write
returns-in_err-write g c =
    fails_after _ _ c.args.self.now c.write.new.self (joined c.args.texts.now) c.from_residual.result _ c.from_residual.ensures.1
    (each_fails _ _ _ c.args.self.now c.loop-text.self c.write.new.self c.args.texts.now c.loop-text.text-index _ c.loop-text-test.true
    c.loop-text.invariant c.in_err-write.ensures)
