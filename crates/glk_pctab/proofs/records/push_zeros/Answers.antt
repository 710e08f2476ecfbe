use Rattle.glk_pctab.proofs.RecordSteps.{zeros_more}
use Rattle.glk_pctab.proofs.records.push_zeros.Goals as goal

pub loop-preserved : goal.loop-preserved
loop-preserved c = zeros_more _ c.loop.out.items c.push.new.self.items c.loop.counter c.loop.invariant c.in_ok-push.ensures.items
