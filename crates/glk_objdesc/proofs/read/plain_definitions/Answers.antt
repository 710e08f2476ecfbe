use Rattle.glk_objdesc.proofs.Lists.{each_more}
use Rattle.glk_objdesc.proofs.read.plain_definitions.Goals as goal

pub loop-k-preserved : goal.loop-k-preserved
loop-k-preserved c = each_more _ c.loop-k.k c.loop-k.items.items c.push.new.self.items _ c.loop-k.invariant c.in_ok-push.ensures.items c.in_ok-definition.ensures
