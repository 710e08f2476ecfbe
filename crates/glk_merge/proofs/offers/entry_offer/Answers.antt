use Rattle.std.proofs.Common.{◌<◌, ℕ, Option, length, ap, sym, ◌∙◌, subst}
use Rattle.std.specs.Prelude.{IfSome}
use Rattle.glk_obj.specs.Records.{pkg_at}
use Rattle.glk_keys.proofs.ReferentLaws.{found_inside}
use Rattle.glk_merge.proofs.OfferLaws.{found_by_entry}
use Rattle.glk_merge.specs.Offers.{IsOffer}
use Rattle.glk_merge.proofs.offers.entry_offer.Goals as goal

pub package_offer-requires-clause-found : goal.package_offer-requires-clause-found
package_offer-requires-clause-found c =
    let P : Option ℕ → Type 0 = λ o. IfSome o (λ q. q < length c.args.loaded.now) in
    subst P (sym c.find_package.ensures) (found_inside c.args.loaded.now c.pkg-path.result.now)

pub returns : goal.returns
returns c =
    let P : Option ℕ → Type 0 = λ o. IsOffer c.args.rows.now o c.package_offer.result in
    subst P (found_by_entry c.args.rows.now c.args.n c.args.k c.args.loaded.now c.pkg-path.result.now c.find_package.result c.requires.world c.requires.entry (c.pkg-path.ensures ∙ ap (λ b. pkg_at b c.args.k) c.object.ensures.value) c.find_package.ensures) c.package_offer.ensures
