use Rattle.std.proofs.Common.{◌≡◌, map, drop}
use Rattle.glk_objdesc.specs.FirstUse.{with_each}
use Rattle.glk_objdesc.proofs.pool.add_names.Given as goal

abbrev pub invariant-loop-item : goal.invariant-loop-item
invariant-loop-item g l = with_each l.pool (map (g.T.Named.name) (drop l.item-index l.items)) ≡ with_each l.fn.pool (map (g.T.Named.name) l.items)
