use Rattle.std.proofs.Common.{◌∙◌, sym, refl}
use Rattle.glk_readings.specs.Readings.{methodoff_offsets}
use Rattle.glk_readings.proofs.RelocationWalks.{offsets_more, offsets_same}
use Rattle.glk_readings.proofs.methods.methodoff_offsets.Goals as goal

pub loop-i-init : goal.loop-i-init
unfolding methodoff_offsets
loop-i-init g c = c.clear.ensures.items

pub loop-i-preserved-then-not-reloc : goal.loop-i-preserved-then-not-reloc
loop-i-preserved-then-not-reloc g c =
    c.loop-i.invariant ∙ sym (offsets_same ((g.S.Symbols.table c.args.symbols.now).relocs c.args.key) c.loop-i.i c.reloc-reloc.result c.reloc-reloc.ensures.value c.if-not-reloc.true)

pub loop-i-preserved : goal.loop-i-preserved
loop-i-preserved g c =
    let more = offsets_more ((g.S.Symbols.table c.args.symbols.now).relocs c.args.key) c.loop-i.i c.reloc-reloc.result c.reloc-reloc.ensures.value c.if-not-reloc.false in
    rw (c.in_ok-push.ensures.items, c.loop-i.invariant, more) refl
