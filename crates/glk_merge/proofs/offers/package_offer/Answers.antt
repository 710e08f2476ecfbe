use Rattle.std.proofs.Common.{◌≡◌, ◌<◌, List, ap, ◌∙◌, arith}
use Rattle.glk_arena.specs.World.{Package, object_count, first_object}
use Rattle.glk_keys.proofs.ReferentLaws.{first_inside}
use Rattle.glk_merge.proofs.offers.package_offer.Goals as goal

pub object_offer-requires : goal.object_offer-requires
object_offer-requires c =
    let world : List Package = c.args.rows.now.world in
    let q = c.in-Some.q in
    let counted : c.object_count.result ≡ object_count world q = c.object_count.ensures ∙ ap (λ (w : List Package). object_count w q) c.requires.world in
    let some : 0 < object_count world q = let h = c.if-object_count-eq0.false in omega arith in
    let first : c.first_object.result ≡ first_object world q = c.first_object.ensures ∙ ap (λ (w : List Package). first_object w q) c.requires.world in
    let inside = first_inside world q some in
    omega arith
