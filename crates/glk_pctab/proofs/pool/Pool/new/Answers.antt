use Rattle.std.proofs.Common.{refl, ap}
use Rattle.std.specs.Map.{lookup}
use Rattle.std.specs.Str.{bytes_eq}
use Rattle.glk_pctab.specs.FirstUse.{concat_of, is_among}
use Rattle.glk_pctab.proofs.pool.Pool.new.Goals as goal

pub invariant_of-result : goal.invariant_of-result
unfolding concat_of is_among
invariant_of-result c = rw c.new.ensures.items (record { at = λ q. ap (λ es. lookup (λ k. bytes_eq q k.now) es) c.new-2.ensures.empty; size_is = refl })
