use Rattle.std.proofs.Common.{arith}
use Rattle.glk_gen.specs.Objects.{autolib_of}
use Rattle.glk_gen.proofs.Ranges.{map_more}
use Rattle.glk_gen.proofs.objects.autolib.Goals as goal

pub loop-k-preserved : goal.loop-k-preserved
loop-k-preserved c = map_more autolib_of 0 c.loop-k.k c.loop-k.k c.loop-k.autolib.items c.push.new.self.items _ (omega arith) c.loop-k.invariant c.in_ok-push.ensures.items (rw (c.in_ok-package_path.ensures))
