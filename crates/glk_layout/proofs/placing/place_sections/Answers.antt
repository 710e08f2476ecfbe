use Rattle.glk_layout.specs.Placed.{placed_view}
use Rattle.std.proofs.Common.{◌≡◌, ◌≤◌, ◌+◌, ℕ, set, get_or, sym, refl, subst, arith}
use Rattle.glk_base.specs.Multiples.{IsLeastMultiple}
use Rattle.glk_layout.specs.Layout.{section_boxes, section_end}
use Rattle.glk_elf.specs.Sections.{noptrbss}
use Rattle.glk_layout.specs.Steps.{ArePlacedTo}
use Rattle.glk_layout.specs.Sections.{AreRanges}
use Rattle.glk_layout.proofs.Boxing.{end_above}
use Rattle.glk_layout.proofs.SectionSteps.{sections_next, section_aligned, first_end, all_ranges}
use Rattle.glk_layout.proofs.placing.place_sections.Goals as goal

pub loop-index-init : goal.loop-index-init
loop-index-init c = record {
  ends = sym (first_end (placed_view c.args.contents.now));
  small = omega arith;
  addrs_count = refl;
  sizes_count = refl;
  addrs_at = λ n low high. absurd (omega (arith, low, high));
  sizes_at = λ n low high. absurd (omega (arith, low, high));
  placed = c.requires.before;
}

pub least_multiple-start-requires-clause-fits : goal.least_multiple-start-requires-clause-fits
least_multiple-start-requires-clause-fits c =
    let s = c.loop-index.invariant.small in
    let i = c.loop-index-test.true in
    omega arith

pub place_section-end-requires-clause-low : goal.place_section-end-requires-clause-low
place_section-end-requires-clause-low c =
    let s = c.loop-index.invariant.small in
    let i = c.loop-index-test.true in
    let l = c.least_multiple-start.ensures.least in
    let m = c.start_multiple.ensures.small in
    omega arith

pub overflow_sub-sizes : goal.overflow_sub-sizes
overflow_sub-sizes c =
    let P : ℕ → Type 0 = λ e. c.least_multiple-start.result ≤ e in
    subst P (sym c.place_section-end.ensures.end)
    (end_above c.least_multiple-start.result (section_boxes (placed_view c.args.contents.now) (c.loop-index.index + 1))
    (section_aligned (placed_view c.args.contents.now) (c.loop-index.index + 1) c.requires.placeable))

pub loop-index-preserved : goal.loop-index-preserved
loop-index-preserved c =
    let Multiple : ℕ → Type 0 = λ m. IsLeastMultiple m c.loop-index.end c.least_multiple-start.result in
    sections_next (placed_view c.args.contents.now) c.loop-index.index (c.loop-index.index + 1) c.loop-index.end c.least_multiple-start.result
    c.place_section-end.result c.loop-index.addrs c.loop-index.sizes c.loop-index.symbols c.loop-index.made
    c.place_section-end.new.symbols c.place_section-end.new.made (omega arith) c.loop-index-test.true c.loop-index.invariant
    (subst Multiple c.start_multiple.ensures.value c.least_multiple-start.ensures)
    (omega (arith, c.least_multiple-start.ensures.least, c.start_multiple.ensures.small))
    c.place_section-end.ensures.end c.place_section-end.ensures.small c.place_section-end.auto.symbols
    c.place_section-end.ensures.symbols c.place_section-end.auto.made c.place_section-end.ensures.made

pub returns-clause-after : goal.returns-clause-after
returns-clause-after c =
    let all : c.loop-index.index ≡ noptrbss = omega arith in
    let P : ℕ → Type 0 = λ k. ArePlacedTo (placed_view c.args.contents.now) k c.loop-index.symbols c.loop-index.made in
    subst P all c.loop-index.invariant.placed

pub returns-clause-ranges : goal.returns-clause-ranges
returns-clause-ranges c =
    let last : c.index-3.result ≡ c.index-2.result = omega (arith, c.index-2.ensures.number, c.index-3.ensures.number) in
    let P : ℕ → Type 0 = λ j. AreRanges (placed_view c.args.contents.now) (set c.loop-index.addrs c.index-2.result (get_or c.loop-index.addrs c.index.result 0)) (set c.loop-index.sizes j c.args.contents.now.tables.tbss) in
    subst P (sym last)
    (all_ranges (placed_view c.args.contents.now) c.requires.placeable c.loop-index.end c.loop-index.index c.index.result c.index-2.result
    c.loop-index.addrs c.loop-index.sizes c.loop-index.symbols c.loop-index.made (omega arith) c.loop-index.invariant
    c.index.ensures.number c.index-2.ensures.number)

pub returns-clause-small : goal.returns-clause-small
returns-clause-small c =
    let all : c.loop-index.index ≡ noptrbss = omega arith in
    let P : ℕ → Type 0 = λ k. c.loop-index.end ≡ section_end (placed_view c.args.contents.now) k in
    let ends : c.loop-index.end ≡ section_end (placed_view c.args.contents.now) noptrbss = subst P all c.loop-index.invariant.ends in
    let s = c.loop-index.invariant.small in
    omega (arith, ends)
