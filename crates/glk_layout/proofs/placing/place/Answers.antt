use Rattle.glk_layout.specs.Placed.{placed_view}
use Rattle.std.proofs.Common.{sym, ◌∙◌, arith}
use Rattle.std.proofs.lemmas.List.{with_items_is}
use Rattle.glk_elf.specs.Sections.{noptrbss, written_data}
use Rattle.glk_layout.proofs.InOrder.{range_at, data_before, end_low, layout_is}
use Rattle.glk_layout.proofs.placing.place.Goals as goal

pub overflow_add-addrs : goal.overflow_add-addrs
overflow_add-addrs c =
    let e = range_at (placed_view c.args.contents.now) c.place_sections.result.addrs c.place_sections.result.sizes c.index-data.result written_data c.requires c.place_sections.ensures.ranges c.index-data.ensures.number (omega arith) (omega arith) in
    let before = data_before (placed_view c.args.contents.now) c.requires in
    let small = c.place_sections.ensures.small in
    omega (arith, e, before, small)

pub overflow_add-addrs-2 : goal.overflow_add-addrs-2
overflow_add-addrs-2 c =
    let e = range_at (placed_view c.args.contents.now) c.place_sections.result.addrs c.place_sections.result.sizes c.index-last.result noptrbss c.requires c.place_sections.ensures.ranges c.index-last.ensures.number (omega arith) (omega arith) in
    let small = c.place_sections.ensures.small in
    omega (arith, e, small)

pub excess-requires-clause-some : goal.excess-requires-clause-some
excess-requires-clause-some c =
    let e = range_at (placed_view c.args.contents.now) c.place_sections.result.addrs c.place_sections.result.sizes c.index-data.result written_data c.requires c.place_sections.ensures.ranges c.index-data.ensures.number (omega arith) (omega arith) in
    let low = end_low (placed_view c.args.contents.now) written_data c.requires in
    omega (arith, e, low)

pub excess-requires-clause-data : goal.excess-requires-clause-data
excess-requires-clause-data c =
    range_at (placed_view c.args.contents.now) c.place_sections.result.addrs c.place_sections.result.sizes c.index-data.result written_data c.requires c.place_sections.ensures.ranges c.index-data.ensures.number (omega arith) (omega arith)

pub excess-requires-clause-last : goal.excess-requires-clause-last
excess-requires-clause-last c =
    range_at (placed_view c.args.contents.now) c.place_sections.result.addrs c.place_sections.result.sizes c.index-last.result noptrbss c.requires c.place_sections.ensures.ranges c.index-last.ensures.number (omega arith) (omega arith)

pub returns-in-None-clause-layout : goal.returns-in-None-clause-layout
returns-in-None-clause-layout c =
    layout_is (placed_view c.args.contents.now) _ c.place_sections.new.symbols c.place_sections.new.made c.requires c.place_sections.ensures.ranges c.place_sections.ensures.after
    (with_items_is c.in_ok-symbols.symbols c.place_sections.new.symbols (c.place_sections.ensures.after.symbol_count ∙ sym c.in_ok-symbols.ensures.len))
    (with_items_is c.in_ok-made.made c.place_sections.new.made (c.place_sections.ensures.after.made_count ∙ sym c.in_ok-made.ensures.len))
