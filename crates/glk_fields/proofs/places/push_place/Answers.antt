use Rattle.std.proofs.Common.{◌≡◌, ◌++◌, ◌∷◌, [], ◌<◌, ◌≤◌, ◌-◌, List, length, get_or, sym, subst}
use Rattle.std.specs.List.Sorted.{IsNonDecreasingBy}
use Rattle.std.proofs.lemmas.List.Sorted.{IsNonDecreasingBy-push}
use Rattle.glk_fields.specs.declared.places.FieldPlace.{FieldPlace}
use Rattle.glk_fields.proofs.places.push_place.Goals as goal

pub returns-clause-rising : goal.returns-clause-rising
returns-clause-rising c = λ up before.
    let P : List FieldPlace → Type 0 = λ xs. IsNonDecreasingBy (λ (f : FieldPlace). f.offset) xs in
    let Q : List FieldPlace → Type 0 = λ xs. (d : FieldPlace) → 0 < length xs → (get_or xs (length xs - 1) d).offset ≤ c.args.place.offset in
    subst P (sym c.in_ok-push.ensures.items) (IsNonDecreasingBy-push (λ (f : FieldPlace). f.offset) c.args.places.now.items c.args.place before
    (subst Q c.deref.ensures.value (c.rises_to-rises.ensures up)))
