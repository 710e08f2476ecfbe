use Rattle.std.proofs.Common.{◌≡◌, ◌∙◌, ◌++◌, ◌∷◌, [], List, sym, refl, ap, subst}
use Rattle.std.specs.Prelude.{All}
use Rattle.std.proofs.lemmas.List.Elements.{All-push}
use Rattle.glk_fields.specs.declared.places.FieldPlace.{FieldPlace}
use Rattle.glk_fields.specs.Places.{places_below}
use Rattle.glk_fields.specs.Ready.{EndsInside}
use Rattle.glk_fields.proofs.PlaceLists.{places_more, places_same}
use Rattle.glk_fields.proofs.places.fill_places.Goals as goal

pub loop-j-preserved-in_default : goal.loop-j-preserved-in_default
loop-j-preserved-in_default c = record {
  places = c.loop-j.invariant.places ∙ sym (places_same c.args.values.now c.args.i c.args.id.0 c.args.address c.loop-j.j (sym c.place_at.ensures.value ∙ c.in_default.is));
  inside = c.loop-j.invariant.inside;
  rising = c.loop-j.invariant.rising;
}

pub loop-j-preserved : goal.loop-j-preserved
loop-j-preserved c =
    let s = c.args.values.now in
    let P : List FieldPlace → Type 0 = λ xs. All (EndsInside s) xs in
    let pushed : c.push_place.new.places.items ≡ c.loop-j.places.items ++ c.in-Some.place ∷ [] = c.in_ok-rises.ensures.places in
    record {
      places = pushed ∙ (ap (λ xs. xs ++ c.in-Some.place ∷ []) c.loop-j.invariant.places
          ∙ sym (places_more s c.args.i c.args.id.0 c.args.address c.loop-j.j c.in-Some.place (sym c.in-Some.ensures.value)));
      inside = subst P (sym pushed) (All-push (EndsInside s) c.loop-j.places.items c.in-Some.place c.loop-j.invariant.inside c.in-Some.ensures.inside);
      rising = λ up. c.in_ok-rises.ensures.rising up (c.loop-j.invariant.rising (c.in_ok-rises.ensures.rose up));
    }
