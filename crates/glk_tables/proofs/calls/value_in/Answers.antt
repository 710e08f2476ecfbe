use Rattle.std.proofs.Common.{◌≡◌, ◌∙◌, get_or, pos, to_z, of_z, w32, sym, ap, Some, rules, arith}
use Rattle.glk_tables.proofs.ValueLemmas.{value_here, value_nowhere}
use Rattle.glk_tables.proofs.calls.value_in.Goals as goal

pub returns-then-low-list : goal.returns-then-low-list
returns-then-low-list c =
    let held : to_z w32 (of_z w32 (get_or c.args.list.now c.loop-low.low (pos 0, 0)).0) ≡ (get_or c.args.list.now c.loop-low.low (pos 0, 0)).0 = search rules in
    let here = value_here c.args.list.now c.args.off c.loop-low.low (omega arith) c.loop-low.invariant.below (c.loop-low.invariant.above c.loop-low.low (omega (arith, c.loop-low.invariant.ordered)) (omega arith)) in
    ap (λ z. Some z) held ∙ sym here

pub returns-else-low-list : goal.returns-else-low-list
returns-else-low-list c = value_nowhere c.args.list.now c.args.off (λ j below. c.loop-low.invariant.below j (omega arith))
