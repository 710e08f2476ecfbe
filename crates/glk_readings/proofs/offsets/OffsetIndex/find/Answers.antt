use Rattle.std.proofs.Common.{sym}
use Rattle.glk_readings.proofs.TargetLists.{sorted_of, named_among, named_inside, named_found, none_among}
use Rattle.glk_readings.proofs.offsets.OffsetIndex.find.Goals as goal

pub reloc-requires : goal.reloc-requires
reloc-requires g c =
    let relocs = g.R.Relocations.list c.args.relocs.now in
    let sorted = sorted_of relocs c.args.self.now.sorted c.in-Some.pairs c.requires c.in-Some.is in
    named_inside relocs c.args.offset c.in-Ok.i
    (named_among relocs c.in-Some.pairs.items c.as_slice.result.now c.args.offset c.in-Ok.i sorted c.as_slice.ensures.value (c.in-Ok.ensures {u = tt}).ok)

pub returns-in-Ok : goal.returns-in-Ok
returns-in-Ok g c =
    let relocs = g.R.Relocations.list c.args.relocs.now in
    let sorted = sorted_of relocs c.args.self.now.sorted c.in-Some.pairs c.requires c.in-Some.is in
    sym (named_found relocs c.args.offset c.in-Ok.i c.reloc.result
    (named_among relocs c.in-Some.pairs.items c.as_slice.result.now c.args.offset c.in-Ok.i sorted c.as_slice.ensures.value (c.in-Ok.ensures {u = tt}).ok)
    c.reloc.ensures)

pub returns-in-Err : goal.returns-in-Err
returns-in-Err g c =
    let relocs = g.R.Relocations.list c.args.relocs.now in
    let sorted = sorted_of relocs c.args.self.now.sorted c.in-Some.pairs c.requires c.in-Some.is in
    sym (none_among relocs c.in-Some.pairs.items c.as_slice.result.now c.args.offset _ sorted c.as_slice.ensures.value (c.in-Err.ensures {u = tt}).err)
