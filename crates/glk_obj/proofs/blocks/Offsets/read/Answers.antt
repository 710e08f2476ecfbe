use Rattle.std.proofs.Common.{◌<◌, ◌≢◌, ℕ, length, arith, get_or-set_other, get_or-set_same, below_more}
use Rattle.std.proofs.Math.ListN.{length-set}
use Rattle.glk_obj.proofs.blocks.Offsets.read.Goals as goal

pub loop-k-preserved : goal.loop-k-preserved
loop-k-preserved c = record {
  size = omega (arith, length-set {A = ℕ});
  same = below_more _ _
      (λ j h. let ne : j ≢ c.loop-k.k = omega arith in rw get_or-set_other (c.loop-k.invariant.same j h))
      (let lt : c.loop-k.k < length c.loop-k.starts = omega arith in rw get_or-set_same c.offset_at.ensures.value);
}
