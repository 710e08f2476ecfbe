use Rattle.std.proofs.Common.{◌≡◌, ◌<◌, ◌∙◌, get_or, ap, subst, arith}
use Rattle.std.proofs.lemmas.List.{get_or_read}
use Rattle.glk_layout.specs.Layout.{made_address}
use Rattle.glk_placing.specs.Programs.{PlacedProgram, contents_of, made_index, made_contents}
use Rattle.glk_placing.proofs.placement.Placement.made_address.Goals as goal

pub returns : goal.returns
returns c =
    let is = c.index.ensures.index in
    let inside = c.index.ensures.inside in
    let long = c.self.invariant.made_count in
    let lt : made_index c.args.content < made_contents = omega (arith, is, inside) in
    let read : c.index-2.result.now ≡ get_or c.self.inside.made_addresses.items c.index.result 0 =
    get_or_read c.self.inside.made_addresses.items c.index.result c.index-2.result.now (omega (arith, inside, long)) c.index-2.ensures 0 in
    let P : PlacedProgram → Type 0 = λ q. c.index-2.result.now ≡ made_address (contents_of q) (made_index c.args.content) in
    subst P c.self.view_is (read ∙ (ap (λ j. get_or c.self.inside.made_addresses.items j 0) is ∙ c.self.invariant.made_at (made_index c.args.content) lt))
