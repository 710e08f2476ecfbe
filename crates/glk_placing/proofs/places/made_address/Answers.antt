use Rattle.std.proofs.Common.{◌≡◌, ◌<◌, get_or, length, ap, arith}
use Rattle.std.proofs.lemmas.List.{get_or_read}
use Rattle.glk_layout.specs.Placed.{placed_view}
use Rattle.glk_placing.proofs.Bounds.{made_small}
use Rattle.glk_placing.specs.Programs.{made_index}
use Rattle.glk_placing.proofs.places.made_address.Goals as goal

pub returns-clause-low : goal.returns-clause-low
returns-clause-low c =
    let i = made_index c.args.content in
    let is = c.index.ensures.index in
    let within = c.index.ensures.inside in
    let lt : made_index c.args.content < length c.args.contents.now.made.now = omega (arith, is, within, c.requires.made) in
    let long = c.requires.layout.made_count in
    let at = c.requires.layout.made (made_index c.args.content) lt in
    let read : c.index-2.result.now ≡ get_or c.args.layout.now.made.items c.index.result 0 =
    get_or_read c.args.layout.now.made.items c.index.result c.index-2.result.now (omega (arith, is, lt, long)) c.index-2.ensures 0 in
    let same : get_or c.args.layout.now.made.items c.index.result 0 ≡ get_or c.args.layout.now.made.items (made_index c.args.content) 0 = ap (λ j. get_or c.args.layout.now.made.items j 0) is in
    let small = made_small (placed_view c.args.contents.now) (made_index c.args.content) c.requires.placeable c.requires.small lt in
    omega (arith, read, same, at, small)
