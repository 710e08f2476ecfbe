use Rattle.std.proofs.Common.{◌+◌, ◌-◌, ◌/◌, arith}
use Rattle.glk_readings.proofs.OffsetLemmas.{between_all, above_middle, below_middle, at_boundary}
use Rattle.glk_readings.proofs.offsets.boundary.Goals as goal

pub loop-low-init : goal.loop-low-init
loop-low-init g c = between_all (g.R.Relocations.list c.args.relocs.now) c.args.offset c.count-high.result c.count-high.ensures

pub reloc-requires : goal.reloc-requires
reloc-requires g c = omega (arith, c.loop-low.invariant.inside)

pub loop-low-preserved-then-reloc-offset : goal.loop-low-preserved-then-reloc-offset
loop-low-preserved-then-reloc-offset g c =
    above_middle (g.R.Relocations.list c.args.relocs.now) c.args.offset c.loop-low.low c.loop-low.high (c.loop-low.low + (c.loop-low.high - c.loop-low.low) / 2) c.reloc.result c.requires c.loop-low.invariant (omega arith) c.reloc.ensures c.if-reloc-offset.true

pub loop-low-preserved : goal.loop-low-preserved
loop-low-preserved g c =
    below_middle (g.R.Relocations.list c.args.relocs.now) c.args.offset c.loop-low.low c.loop-low.high (c.loop-low.low + (c.loop-low.high - c.loop-low.low) / 2) c.reloc.result c.requires c.loop-low.invariant (omega arith) (omega arith) c.reloc.ensures c.if-reloc-offset.false

pub returns : goal.returns
returns g c = at_boundary (g.R.Relocations.list c.args.relocs.now) c.args.offset c.loop-low.low c.loop-low.high c.loop-low.invariant c.loop-low-test.false
