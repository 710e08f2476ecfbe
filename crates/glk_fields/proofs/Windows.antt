-- Fields symbol after symbol: where each symbol's are in a window of their own, all are apart.
use Rattle.std.proofs.Common.{◌≡◌, ◌∙◌, ℕ, zero, suc, ◌+◌, ◌-◌, ◌<◌, ◌≤◌, inl, inr, List, [], ◌∷◌, ◌++◌, length, get_or, refl, ap, sym, subst, arith, length-append}
use Rattle.std.specs.Prelude.{All, AllPairs, map}
use Rattle.std.proofs.lemmas.Bool.{cases_lt}
use Rattle.std.proofs.lemmas.List.{get_or_append_left, get_or-append_right, map-append, length-map}
use Rattle.std.proofs.lemmas.List.Elements.{All-append, All-nil, All-head, All-tail, All-weaker, All-from_get_or, All-get_or}
use Rattle.glk_placing.specs.Programs.{PlacedProgram}
use Rattle.glk_reloc.specs.declared.fields.Field.{Field}
use Rattle.glk_reloc.specs.Fields.{IsSized, AreApart, IsWithin, end_of}
use Rattle.glk_fields.specs.declared.places.FieldPlace.{FieldPlace}
use Rattle.glk_fields.specs.Places.{AreOrdered, ArePlacesOf, symbol_places, fields_at}
use Rattle.glk_fields.specs.Ready.{EndsInside, IsInFile}

-- fields in a window
pub record AreWindowed (s : PlacedProgram) (from to : ℕ) (fields : List Field) : Type 0 where
  pub sized : All IsSized fields
  pub apart : AreApart fields
  pub within : All (IsWithin from to) fields
  pub inside : All (IsInFile s) fields

module _ {X : Type 0} where
  pub all_left : (P : X → Type 0) (xs ys : List X) → All P (xs ++ ys) → All P xs
  all_left P xs ys all k d lt =
      let inside : k < length (xs ++ ys) = omega (arith, lt, length-append xs ys) in
      subst P (get_or_append_left xs ys d k lt) (all k d inside)

  pub all_right : (P : X → Type 0) (xs ys : List X) → All P (xs ++ ys) → All P ys
  all_right P xs ys all k d lt =
      let inside : length xs + k < length (xs ++ ys) = omega (arith, lt, length-append xs ys) in
      let at = get_or-append_right xs ys (length xs) (length xs + k) d refl (omega arith) in
      let same : length xs + k - length xs ≡ k = omega arith in
      let Q : ℕ → Type 0 = λ j. P (get_or ys j d) in
      subst Q same (subst P at (all (length xs + k) d inside))

  pub pairs_append : (R : X → X → Type 0) (xs ys : List X) → AllPairs R xs → AllPairs R ys
      → ((i j : ℕ) (d : X) → i < length xs → j < length ys → R (get_or xs i d) (get_or ys j d)) → AllPairs R (xs ++ ys)
  pairs_append R xs ys left right cross i j d less lt =
      let long = length-append xs ys in
      elim (cases_lt j (length xs)) [
        | inl here ↦
            let P : X → Type 0 = λ x. R x (get_or (xs ++ ys) j d) in
            let Q : X → Type 0 = λ y. R (get_or xs i d) y in
            subst P (sym (get_or_append_left xs ys d i (omega arith))) (subst Q (sym (get_or_append_left xs ys d j here)) (left i j d less here))
        | inr later ↦
            let Q : X → Type 0 = λ y. R (get_or (xs ++ ys) i d) y in
            let at = get_or-append_right xs ys (length xs) j d refl later in
            subst Q (sym at) (elim (cases_lt i (length xs)) [
              | inl before ↦
                  let P : X → Type 0 = λ x. R x (get_or ys (j - length xs) d) in
                  subst P (sym (get_or_append_left xs ys d i before)) (cross i (j - length xs) d before (omega (arith, lt, long, later)))
              | inr after ↦
                  let P : X → Type 0 = λ x. R x (get_or ys (j - length xs) d) in
                  subst P (sym (get_or-append_right xs ys (length xs) i d refl after)) (right (i - length xs) (j - length xs) d (omega (arith, less, after)) (omega (arith, lt, long, later)))
            ])
      ]

  pub pairs_tail : (R : X → X → Type 0) (x : X) (xs : List X) → AllPairs R (x ∷ xs) → AllPairs R xs
  pairs_tail R x xs pairs i j d less lt = pairs (suc i) (suc j) d (omega arith) (omega arith)

  pub pairs_head : (R : X → X → Type 0) (x : X) (xs : List X) → AllPairs R (x ∷ xs) → All (R x) xs
  pairs_head R x xs pairs k d lt = pairs zero (suc k) d (omega arith) (omega arith)

weaker : (from to low high : ℕ) (f : Field) → low ≤ from → to ≤ high → IsWithin from to f → IsWithin low high f
weaker from to low high f a b w = let x = w.0 in let y = w.1 in (omega (arith, x, a), omega (arith, y, b))

pub windowed_append : (s : PlacedProgram) (low mid next high : ℕ) (xs ys : List Field) → low ≤ next → mid ≤ next → mid ≤ high → low ≤ mid
    → AreWindowed s low mid xs → AreWindowed s next high ys → AreWindowed s low high (xs ++ ys)
windowed_append s low mid next high xs ys a b c e first second = record {
  sized = All-append IsSized xs ys first.sized second.sized;
  apart = pairs_append (λ (f g : Field). end_of f ≤ g.at) xs ys first.apart second.apart (λ i j d li lj.
      let x = (first.within i d li).1 in
      let y = (second.within j d lj).0 in
      omega (arith, x, y, b));
  within = All-append (IsWithin low high) xs ys
      (All-weaker (IsWithin low mid) (IsWithin low high) (λ f w. weaker low mid low high f (omega arith) c w) xs first.within)
      (All-weaker (IsWithin next high) (IsWithin low high) (λ f w. weaker next high low high f a (omega arith) w) ys second.within);
  inside = All-append (IsInFile s) xs ys first.inside second.inside;
}

pub windowed_none : (s : PlacedProgram) (low high : ℕ) → AreWindowed s low high []
windowed_none s low high = record {
  sized = All-nil IsSized;
  apart = λ i j d less lt. absurd (omega (arith, lt));
  within = All-nil (IsWithin low high);
  inside = All-nil (IsInFile s);
}

-- the fields of symbol i are in a window
abbrev pub IsWindow : PlacedProgram → (from to i : ℕ) → Type 0
IsWindow s from to i =
    (own : List FieldPlace) → AreOrdered (symbol_places s i) own → All (EndsInside s) own → AreWindowed s from to (fields_at s own)

-- a window lies between two bounds
abbrev pub LiesIn : (from to : ℕ → ℕ) → (low high i : ℕ) → Type 0
LiesIn from to low high i = (low ≤ from i) × ((from i ≤ to i) × (to i ≤ high))

pub all_windows : (s : PlacedProgram) (from to : ℕ → ℕ) (low high : ℕ) (indices : List ℕ) (places : List FieldPlace) → low ≤ high
    → All (λ i. IsWindow s (from i) (to i) i) indices → AllPairs (λ i j. to i ≤ from j) indices → All (LiesIn from to low high) indices
    → ArePlacesOf s indices places → All (EndsInside s) places → AreWindowed s low high (fields_at s places)
all_windows s from to low high [] places order windows pairs lies are inside =
    let P : List FieldPlace → Type 0 = λ xs. AreWindowed s low high (fields_at s xs) in
    subst P (sym are) (windowed_none s low high)
all_windows s from to low high (i ∷ later) places order windows pairs lies are inside =
    let own : List FieldPlace = are.0 in
    let rest : List FieldPlace = are.1 in
    let P : List FieldPlace → Type 0 = λ xs. AreWindowed s low high (fields_at s xs) in
    let Q : List FieldPlace → Type 0 = λ xs. All (EndsInside s) xs in
    let R : List Field → Type 0 = λ xs. AreWindowed s low high xs in
    let whole : All (EndsInside s) (own ++ rest) = subst Q are.2 inside in
    let here : LiesIn from to low high i = All-head (LiesIn from to low high) i later lies in
    let first : AreWindowed s (from i) (to i) (fields_at s own) =
    All-head (λ j. IsWindow s (from j) (to j) j) i later windows own are.3 (all_left (EndsInside s) own rest whole) in
    let after = pairs_head (λ j k. to j ≤ from k) i later pairs in
    let tails = All-tail (LiesIn from to low high) i later lies in
    let closer : All (LiesIn from to (to i) high) later = λ k d lt. (after k d lt, ((tails k d lt).1.0, (tails k d lt).1.1)) in
    let second : AreWindowed s (to i) high (fields_at s rest) =
    all_windows s from to (to i) high later rest here.1.1 (All-tail (λ j. IsWindow s (from j) (to j) j) i later windows)
    (pairs_tail (λ j k. to j ≤ from k) i later pairs) closer are.4 (all_right (EndsInside s) own rest whole) in
    let wider : AreWindowed s low (to i) (fields_at s own) = record {
      sized = first.sized;
      apart = first.apart;
      within = All-weaker (IsWithin (from i) (to i)) (IsWithin low (to i)) (λ f w. weaker (from i) (to i) low (to i) f here.0 (omega arith) w) (fields_at s own) first.within;
      inside = first.inside;
    } in
    let below : low ≤ to i = (let a = here.0 in let b = here.1.0 in omega (arith, a, b)) in
    subst P (sym are.2) (subst R (sym (map-append _ own rest))
    (windowed_append s low (to i) (to i) high (fields_at s own) (fields_at s rest) below (omega arith) here.1.1 below wider second))
