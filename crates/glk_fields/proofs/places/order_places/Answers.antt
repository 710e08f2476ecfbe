use Rattle.std.proofs.Common.{◌≡◌, List, refl, sym, subst, rules}
use Rattle.std.specs.Prelude.{All, true}
use Rattle.std.specs.List.Sorted.{IsPermutation, IsNonDecreasingBy}
use Rattle.std.proofs.lemmas.List.Sorted.{IsPermutation-refl, All-permutation, IsNonDecreasingBy-from_sort_by_key}
use Rattle.glk_fields.specs.declared.places.FieldPlace.{FieldPlace}
use Rattle.glk_fields.specs.Places.{AreOrdered, row_places}
use Rattle.glk_fields.specs.Ready.{EndsInside}
use Rattle.glk_fields.proofs.places.order_places.Goals as goal

pub returns-clause-ordered : goal.returns-clause-ordered
returns-clause-ordered c =
    let filled = c.fill_places.new.places.items in
    let P : List FieldPlace → Type 0 = λ xs. IsPermutation xs c.sort_by_key.new.self.items in
    record {
      permutation = subst P c.in_ok-fill_places.ensures.places c.in_ok-sort_by_key.ensures.permutation;
      rising = IsNonDecreasingBy-from_sort_by_key (λ (f : FieldPlace). f.offset) _ c.in_ok-sort_by_key.ensures.sorted (λ a r q k. search rules);
    }

pub returns-clause-inside : goal.returns-clause-inside
returns-clause-inside c =
    All-permutation (EndsInside c.args.values.now) c.fill_places.new.places.items c.sort_by_key.new.self.items c.in_ok-sort_by_key.ensures.permutation c.in_ok-fill_places.ensures.inside

pub returns-then-branch-clause-ordered : goal.returns-then-branch-clause-ordered
returns-then-branch-clause-ordered c =
    let P : List FieldPlace → Type 0 = λ xs. AreOrdered xs c.fill_places.new.places.items in
    subst P c.in_ok-fill_places.ensures.places
    (record { permutation = IsPermutation-refl c.fill_places.new.places.items; rising = c.in_ok-fill_places.ensures.rising c.if-branch.true })
