use Rattle.std.proofs.Common.{◌∙◌, sym, refl, arith}
use Rattle.glk_readings.proofs.TargetLists.{targets_more, targets_same}
use Rattle.glk_readings.proofs.offsets.targets.Goals as goal

pub loop-i-preserved-then-is_none : goal.loop-i-preserved-then-is_none
loop-i-preserved-then-is_none g c =
    let relocs = g.R.Relocations.list c.args.relocs.now in
    c.loop-i.invariant ∙ sym (targets_same relocs c.loop-i.i c.reloc-reloc.result c.reloc-reloc.ensures (omega arith) (c.if-is_none.ensures {u = tt}))

pub loop-i-preserved : goal.loop-i-preserved
loop-i-preserved g c =
    let relocs = g.R.Relocations.list c.args.relocs.now in
    rw (c.in_ok-push.ensures.items, c.loop-i.invariant, targets_more relocs c.loop-i.i c.reloc-reloc.result c.reloc-reloc.ensures (omega arith) (c.if-is_none.ensures {u = tt})) refl
