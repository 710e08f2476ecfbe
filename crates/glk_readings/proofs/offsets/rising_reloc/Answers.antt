use Rattle.std.proofs.Common.{◌≡◌, false, sym, ◌∙◌}
use Rattle.glk_readings.specs.References.{refers_at}
use Rattle.glk_readings.proofs.OffsetLemmas.{none_at_end, none_at_boundary, found_at_boundary, other_offset, this_offset, no_target}
use Rattle.glk_readings.proofs.offsets.rising_reloc.Goals as goal
use Rattle.glk_readings.proofs.offsets.rising_reloc.Goals.{then-reloc-offset-via-then-reloc-offset, then-reloc-offset-via-else-reloc-offset+then-is_none}

pub returns-then-at-count : goal.returns-then-at-count
returns-then-at-count g c =
    sym (none_at_end (g.R.Relocations.list c.args.relocs.now) c.args.offset c.boundary-at.result c.boundary-at.ensures (c.if-at-count.true ∙ c.count.ensures))

pub returns-then-reloc-offset : goal.returns-then-reloc-offset
returns-then-reloc-offset g c =
    let other : refers_at c.args.offset c.reloc-reloc.result ≡ false = elim c.then-reloc-offset.branch [
      | then-reloc-offset-via-then-reloc-offset w ↦ other_offset c.reloc-reloc.result c.args.offset w.if-reloc-offset.true
      | then-reloc-offset-via-else-reloc-offset+then-is_none w ↦ no_target c.reloc-reloc.result c.args.offset (w.if-is_none.ensures {u = tt})
    ] in
    sym (none_at_boundary (g.R.Relocations.list c.args.relocs.now) c.args.offset c.boundary-at.result c.reloc-reloc.result c.requires c.boundary-at.ensures c.reloc-reloc.ensures other)

pub returns : goal.returns
returns g c =
    sym (found_at_boundary (g.R.Relocations.list c.args.relocs.now) c.args.offset c.boundary-at.result c.reloc-reloc.result c.boundary-at.ensures c.reloc-reloc.ensures
    (this_offset c.reloc-reloc.result c.args.offset c.if-reloc-offset.false (c.if-is_none.ensures {u = tt})))
