use Rattle.std.proofs.Common.{refl}
use Rattle.glk_gen.proofs.Ranges.{map_more}
use Rattle.glk_gen.proofs.objects.functions.Goals as goal

pub loop-i-preserved : goal.loop-i-preserved
loop-i-preserved c = map_more _ _ c.loop-i.i _ c.loop-i.defs.items c.push.new.self.items _ refl c.loop-i.invariant c.in_ok-push.ensures.items c.in_ok-function.ensures
