use Rattle.std.proofs.Common.{arith, ap}
use Rattle.glk_objdesc.specs.Sizes.{total_of}
use Rattle.glk_objdesc.proofs.Clamped.{total_four}
use Rattle.glk_objdesc.proofs.WriteLemmas.{table_is}
use Rattle.glk_objdesc.proofs.write.push_table.Goals as goal

pub push_entries-requires : goal.push_entries-requires
push_entries-requires c = omega (arith, c.requires, total_four c.args.part c.args.d.now.defs c.args.d.now.hash64 c.args.d.now.hashed c.args.d.now.ndefs, ap (total_of c.args.part) c.as_slice.ensures)

pub push_entries-requires-2 : goal.push_entries-requires-2
push_entries-requires-2 c = omega (arith, c.requires, total_four c.args.part c.args.d.now.defs c.args.d.now.hash64 c.args.d.now.hashed c.args.d.now.ndefs, ap (total_of c.args.part) c.as_slice.ensures, ap (total_of c.args.part) c.as_slice-2.ensures, c.in_ok-at.ensures.sum)

pub push_entries-requires-3 : goal.push_entries-requires-3
push_entries-requires-3 c = omega (arith, c.requires, total_four c.args.part c.args.d.now.defs c.args.d.now.hash64 c.args.d.now.hashed c.args.d.now.ndefs, ap (total_of c.args.part) c.as_slice.ensures, ap (total_of c.args.part) c.as_slice-2.ensures, ap (total_of c.args.part) c.as_slice-3.ensures, c.in_ok-at.ensures.sum, c.in_ok-at-2.ensures.sum)

pub push_entries-requires-4 : goal.push_entries-requires-4
push_entries-requires-4 c = omega (arith, c.requires, total_four c.args.part c.args.d.now.defs c.args.d.now.hash64 c.args.d.now.hashed c.args.d.now.ndefs, ap (total_of c.args.part) c.as_slice.ensures, ap (total_of c.args.part) c.as_slice-2.ensures, ap (total_of c.args.part) c.as_slice-3.ensures, ap (total_of c.args.part) c.as_slice-4.ensures, c.in_ok-at.ensures.sum, c.in_ok-at-2.ensures.sum, c.in_ok-at-3.ensures.sum)

pub returns : goal.returns
returns c =
    table_is c.args.part c.args.d.now c.args.out.now.items c.push_entries.new.out.items c.push_entries-2.new.out.items c.push_entries-3.new.out.items c.push_entries-4.new.out.items c.push_fields.new.out.items
    c.in_ok-at.at c.in_ok-at-2.at c.in_ok-at-3.at c.in_ok-at-4.at c.as_slice.result.now c.as_slice-2.result.now c.as_slice-3.result.now c.as_slice-4.result.now
    c.as_slice.ensures c.as_slice-2.ensures c.as_slice-3.ensures c.as_slice-4.ensures
    c.in_ok-at.ensures.entries c.in_ok-at-2.ensures.entries c.in_ok-at-3.ensures.entries c.in_ok-at-4.ensures.entries c.in_ok-push_fields.ensures.whole
