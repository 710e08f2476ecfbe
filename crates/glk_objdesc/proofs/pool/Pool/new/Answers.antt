use Rattle.std.proofs.Common.{refl, ap}
use Rattle.std.specs.Map.{lookup}
use Rattle.std.specs.Str.{bytes_eq}
use Rattle.glk_objdesc.specs.FirstUse.{concat_of, is_among}
use Rattle.glk_objdesc.specs.Canonical.{clamped}
use Rattle.glk_objdesc.proofs.pool.Pool.new.Goals as goal

pub invariant_of-result : goal.invariant_of-result
unfolding concat_of is_among clamped
invariant_of-result c = rw c.new.ensures.items (record { at = λ q. ap (λ es. lookup (λ k. bytes_eq q k.now) es) c.new-2.ensures.empty; size_is = refl })
