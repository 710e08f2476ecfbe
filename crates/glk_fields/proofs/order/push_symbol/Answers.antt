use Rattle.std.proofs.Common.{◌≡◌, ◌∙◌, ◌++◌, List, ap, sym, subst}
use Rattle.glk_fields.specs.Added.{AddsPlaces}
use Rattle.glk_fields.specs.declared.places.FieldPlace.{FieldPlace}
use Rattle.std.specs.Prelude.{◌∷◌, []}
use Rattle.glk_fields.proofs.PlaceLists.{adds_one}
use Rattle.glk_fields.proofs.order.push_symbol.Goals as goal

pub returns : goal.returns
returns c =
    let own = c.fill_symbol.new.places.items in
    let P : List FieldPlace → Type 0 = λ xs. AddsPlaces c.args.values.now (c.args.i ∷ []) c.args.places.now.items xs in
    subst P (sym (c.in_ok-extend_from_slice.ensures.items ∙ ap (λ xs. c.args.places.now.items ++ xs) c.deref.ensures.value))
    (adds_one c.args.values.now c.args.i c.args.places.now.items c.fill_symbol.new.places.items c.in_ok-fill_symbol.ensures.ordered c.in_ok-fill_symbol.ensures.inside)
