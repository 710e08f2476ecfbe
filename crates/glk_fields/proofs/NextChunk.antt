-- Fields chunk after chunk.
use Rattle.std.proofs.Common.{◌≡◌, ◌∙◌, ℕ, ◌+◌, ◌-◌, ◌<◌, ◌≤◌, min, List, [], ◌∷◌, ◌++◌, length, take, drop, refl, ap, sym, arith, length-take, length-drop}
use Rattle.std.proofs.lemmas.List.{take-append-drop, map-append, length-map}
use Rattle.glk_placing.specs.Programs.{PlacedProgram}
use Rattle.glk_fields.specs.declared.places.FieldPlace.{FieldPlace}
use Rattle.glk_fields.specs.Places.{place_field, fields_at}

empty : {X : Type 0} (xs : List X) → length xs ≡ 0 → xs ≡ []
empty [] e = refl
empty (x ∷ xs) e = absurd (omega (arith, e))

pub chunk_next : (s : PlacedProgram) (places here later : List FieldPlace) (n : ℕ) → here ≡ take n places → later ≡ drop n places
    → fields_at s places ≡ fields_at s here ++ fields_at s later
chunk_next s places here later n first rest =
    ap (fields_at s) (sym (take-append-drop n places))
    ∙ (map-append (place_field s) (take n places) (drop n places)
    ∙ (λ z. fields_at s (sym first z) ++ fields_at s (sym rest z)))

-- a chunk has a field, unless no place is left
pub chunk_last : (s : PlacedProgram) (places here later : List FieldPlace) (n most : ℕ) → 0 < most → n ≡ min (length places) most → here ≡ take n places → later ≡ drop n places
    → fields_at s here ≡ [] → fields_at s later ≡ []
chunk_last s places here later n most some count first rest none =
    let long : length (fields_at s here) ≡ length here = length-map here (place_field s) in
    let zero_long : length (fields_at s here) ≡ 0 = ap length none in
    let taken : length here ≡ length (take n places) = ap length first in
    let left : length later ≡ length (drop n places) = ap length rest in
    let e : length later ≡ 0 = omega (arith, long, zero_long, taken, left, count, length-take n places, length-drop n places) in
    ap (fields_at s) (empty later e)
