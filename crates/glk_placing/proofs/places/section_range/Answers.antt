use Rattle.std.proofs.Common.{◌≡◌, ◌≤◌, arith}
use Rattle.glk_elf.specs.Sections.{text, placed_sections}
use Rattle.glk_elf.specs.Views.{number_of}
use Rattle.glk_layout.specs.Placed.{placed_view}
use Rattle.glk_placing.proofs.Bounds.{range_small}
use Rattle.glk_placing.proofs.PlaceSteps.{range_start, range_size}
use Rattle.glk_placing.proofs.places.section_range.Goals as goal

pub returns-clause-size : goal.returns-clause-size
returns-clause-size c =
    let number = c.index-index.ensures.number in
    let inside = c.index-index.ensures.inside in
    range_size (placed_view c.args.contents.now) c.args.layout.now c.index-index.result (number_of c.args.section) c.requires.layout number (omega (arith, number)) (omega (arith, number, inside))

pub returns-clause-small : goal.returns-clause-small
returns-clause-small c =
    let number = c.index-index.ensures.number in
    let inside = c.index-index.ensures.inside in
    let low : text ≤ number_of c.args.section = omega (arith, number) in
    let high : number_of c.args.section ≤ placed_sections = omega (arith, number, inside) in
    let start = range_start (placed_view c.args.contents.now) c.args.layout.now c.index-index.result (number_of c.args.section) c.requires.layout number low high in
    let size = range_size (placed_view c.args.contents.now) c.args.layout.now c.index-index.result (number_of c.args.section) c.requires.layout number low high in
    let small = range_small (placed_view c.args.contents.now) (number_of c.args.section) c.requires.placeable c.requires.small c.requires.tbss low high in
    omega (arith, start, size, small)
