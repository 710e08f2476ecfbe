-- The kept list is in order, and made names come last.
use Rattle.std.proofs.Common.{◌≡◌, ℕ, suc, zero, ◌+◌, ◌<◌, ◌≤◌, ◌⊎◌, List, ◌∷◌, Bool, true, false, cond, Option, Some, None, length, map, get_or, inl, inr, refl, sym, ap, ◌∙◌, subst, arith}
use Rattle.std.specs.Prelude.{◌==◌, ◌&&◌, is_some, unwrap_or}
use Rattle.std.specs.List.{Contains, cons_option, filter, filter_map, range_with_len}
use Rattle.std.specs.List.Sorted.{IsStrictlyIncreasing}
use Rattle.std.specs.Option.{option_map_or, option_map, option_or}
use Rattle.std.proofs.lemmas.Bool.{cases_lt}
use Rattle.std.proofs.lemmas.Bool.Decides.{nat_tests}
use Rattle.std.proofs.lemmas.List.FromFn.{length-range_with_len, get_or-range_with_len}
use Rattle.std.proofs.lemmas.List.Kept.{IsStrictlyIncreasing-filter}
use Rattle.std.proofs.lemmas.Option.{same_Some}
use Rattle.glk_arena.specs.World.{symbol_count}
use Rattle.glk_keys.proofs.ContentLaws.{definition_of_object}
use Rattle.glk_keys.specs.Definitions.{chosen_of, made_name_of, object_definition}
use Rattle.glk_keys.specs.Keys.{key_id}
use Rattle.glk_keys.specs.Programs.{Program}
use Rattle.glk_keys.specs.Rows.{row_count, made_row}
use Rattle.glk_merge.proofs.PollLaws.{is_key as key_is_key}
use Rattle.glk_reach.specs.Chosen.{chosen_row}
use Rattle.glk_reach.specs.KeptLists.{is_chosen, kept_at, kept_list}
use Rattle.glk_kept_laws.specs.Laws.{position_of, IsInOrder, AreMadeNamesLast}
use Rattle.glk_kept_laws.proofs.ChosenRows.{row_has, row_parts, row_is, object_has}

-- An element of a list is its first one or a later one.
first_or_later : (x k : ℕ) (xs : List ℕ) (i : ℕ) → i < length (x ∷ xs) → get_or (x ∷ xs) i k ≡ k → (x ≡ k) ⊎ Contains xs k
first_or_later x k xs zero h e = inl e
first_or_later x k xs (suc i) h e = inr (i, omega arith, e)

later_too : (x k : ℕ) (xs : List ℕ) → Contains xs k → Contains (x ∷ xs) k
later_too x k xs c = let below : c.0 < length xs = c.1 in (suc c.0, omega arith, c.2)

-- The answers of a function over a range.
module _ (f : ℕ → Option ℕ) where
  abbrev answers : ℕ → ℕ → List ℕ
  answers a n = filter_map f (range_with_len a n)

  abbrev From : ℕ → ℕ → ℕ → Type 0
  From a n k = (r : ℕ) × (a ≤ r) × (r < a + n) × (f r ≡ Some k)

  later_from : (a n k : ℕ) → From (a + 1) n k → From a (suc n) k
  later_from a n k at = let r : ℕ = at.0 in let low : a + 1 ≤ r = at.1 in let high : r < a + 1 + n = at.2 in (r, omega arith, omega arith, at.3)

  from_cases : (a n k : ℕ) (o : Option ℕ) → f a ≡ o → ((k : ℕ) → Contains (answers (a + 1) n) k → From (a + 1) n k) → Contains (cons_option o (answers (a + 1) n)) k → From a (suc n) k
  from_cases a n k None e later c = later_from a n k (later k c)
  from_cases a n k (Some x) e later c = elim (first_or_later x k (answers (a + 1) n) c.0 c.1 c.2) [
    | inl same ↦ (a, omega arith, omega arith, e ∙ ap Some same)
    | inr rest ↦ later_from a n k (later k rest)
  ]

  pub answer_from : (a n k : ℕ) → Contains (answers a n) k → From a n k
  answer_from a zero k c = absurd (let bad : c.0 < 0 = c.1 in omega arith)
  answer_from a (suc n) k c = from_cases a n k (f a) refl (λ q. answer_from (a + 1) n q) c

  behind : (o : Option ℕ) (xs : List ℕ) (k : ℕ) → Contains xs k → Contains (cons_option o xs) k
  behind None xs k c = c
  behind (Some x) xs k c = later_too x k xs c

  in_front : (o : Option ℕ) (xs : List ℕ) (k : ℕ) → o ≡ Some k → Contains (cons_option o xs) k
  in_front None xs k e = absurd (let bad : None ≡ Some k = e in cc)
  in_front (Some x) xs k e = (0, omega arith, same_Some x k e)

  pub answer_at : (a n r k : ℕ) → a ≤ r → r < a + n → f r ≡ Some k → Contains (answers a n) k
  answer_at a zero r k low high e = absurd (omega arith)
  answer_at a (suc n) r k low high e = elim (cases_lt a r) [
    | inl later ↦ behind (f a) (answers (a + 1) n) k (answer_at (a + 1) n r k (omega arith) (omega arith) e)
    | inr here ↦ let same : r ≡ a = omega arith in in_front (f a) (answers (a + 1) n) k (ap f (sym same) ∙ e)
  ]

  module _ (place : ℕ → ℕ) where
    one_place : (r : ℕ) (o : Option ℕ) (xs rs : List ℕ) → ((k : ℕ) → o ≡ Some k → place k ≡ r) → map place xs ≡ rs → map place (cons_option o xs) ≡ cond (is_some o) (r ∷ rs) rs
    one_place r None xs rs at same = same
    one_place r (Some k) xs rs at same = let here : place k ≡ r = at k refl in rw (here, same) refl

    places_are : (a n : ℕ) → ((r k : ℕ) → r < a + n → f r ≡ Some k → place k ≡ r) → map place (answers a n) ≡ filter (λ r. is_some (f r)) (range_with_len a n)
    places_are a zero places = refl
    places_are a (suc n) places =
        one_place a (f a) (answers (a + 1) n) (filter (λ r. is_some (f r)) (range_with_len (a + 1) n)) (λ k e. places a k (omega arith) e)
        (places_are (a + 1) n (λ r k h e. places r k (omega arith) e))

    range_rises : (a n : ℕ) → IsStrictlyIncreasing (range_with_len a n)
    range_rises a n i h =
        let long = length-range_with_len a n in
        let one = get_or-range_with_len a n i 0 (omega arith) in
        let two = get_or-range_with_len a n (i + 1) 0 (omega arith) in
        omega arith

    pub places_rise : (a n : ℕ) → ((r k : ℕ) → r < a + n → f r ≡ Some k → place k ≡ r) → IsStrictlyIncreasing (map place (answers a n))
    places_rise a n places =
        subst IsStrictlyIncreasing (sym (places_are a n places))
        (IsStrictlyIncreasing-filter (λ r. is_some (f r)) (range_with_len a n) (range_rises a n))

both_true : (a b : Bool) → (a && b) ≡ true → (a ≡ true) × (b ≡ true)
both_true true true e = (refl, refl)
both_true true false e = absurd (let bad : false ≡ true = e in cc)
both_true false b e = absurd (let bad : false ≡ true = e in cc)

if_some : (b : Bool) (x k : ℕ) → cond b (Some x) None ≡ Some k → (b ≡ true) × (x ≡ k)
if_some true x k e = (refl, same_Some x k e)
if_some false x k e = absurd (let bad : None ≡ Some k = e in cc)

chosen_is : (o : Option ℕ) (r : ℕ) → option_map_or (λ q. q == r) o false ≡ true → o ≡ Some r
chosen_is (Some q) r e = let same : q ≡ r = grind (arith, nat_tests, e) in ap Some same
chosen_is None r e = absurd (let bad : false ≡ true = e in cc)

some_is : (o : Option ℕ) → is_some o ≡ true → o ≡ Some (unwrap_or o 0)
some_is (Some r) e = refl
some_is None e = absurd (let bad : false ≡ true = e in cc)

module _ (p : Program) (kept : ℕ → Bool) where
  -- what a row in the list says
  at_parts : (r k : ℕ) → kept_at p kept r ≡ Some k → (chosen_of p (key_id p r) ≡ Some r) × (kept (key_id p r) ≡ true) × (key_id p r ≡ k)
  unfolding kept_at
  at_parts r k e =
      let is = if_some (is_chosen p r && kept (key_id p r)) (key_id p r) k e in
      let both = both_true (is_chosen p r) (kept (key_id p r)) is.0 in
      (chosen_is (chosen_of p (key_id p r)) r both.0, both.1, is.1)

  chosen_at : (r k : ℕ) → r < row_count p → kept_at p kept r ≡ Some k → (chosen_row p k ≡ Some r) × (kept k ≡ true)
  chosen_at r k inside e =
      let parts = at_parts r k e in
      let key = key_is_key p r inside in
      let row = row_is p (key_id p r) r key.own parts.0 in
      let P : ℕ → Type 0 = λ x. (chosen_row p x ≡ Some r) × (kept x ≡ true) in
      subst P parts.2 (row, parts.1)

  kept_there : (k r : ℕ) → key_id p r ≡ k → chosen_of p k ≡ Some r → kept k ≡ true → kept_at p kept r ≡ Some k
  unfolding kept_at
  kept_there k r key chosen is =
      let same : (r == r) ≡ true = grind (arith, nat_tests) in
      let is_so : is_chosen p r ≡ true = ap (λ x. option_map_or (λ q. q == r) (chosen_of p x) false) key ∙ ap (λ (o : Option ℕ). option_map_or (λ q. q == r) o false) chosen ∙ same in
      let keep : kept (key_id p r) ≡ true = ap kept key ∙ is in
      rw (is_so, keep) (ap Some key)

  -- a key in the list is that of one of the rows
  member : (k : ℕ) → Contains (kept_list p kept) k → (r : ℕ) × (chosen_row p k ≡ Some r) × (kept k ≡ true)
  unfolding kept_list
  member k c =
      let at = answer_from (kept_at p kept) 0 (row_count p) k c in
      let below : at.0 < 0 + row_count p = at.2 in
      let inside : at.0 < row_count p = omega arith in
      let is = chosen_at at.0 k inside at.3 in
      (at.0, is.0, is.1)

  listed : (k : ℕ) → is_some (chosen_row p k) ≡ true → kept k ≡ true → Contains (kept_list p kept) k
  unfolding kept_list
  listed k defined keep =
      let r : ℕ = unwrap_or (chosen_row p k) 0 in
      let e = some_is (chosen_row p k) defined in
      let parts = row_parts p k r e in
      let has = row_has p k r e in
      let inside : r < row_count p = has.0 in
      answer_at (kept_at p kept) 0 (row_count p) r k (omega arith) (omega arith) (kept_there k r has.1 parts.1 keep)

  rising : IsStrictlyIncreasing (map (position_of p) (kept_list p kept))
  unfolding kept_list
  rising =
      places_rise (kept_at p kept) (position_of p) 0 (row_count p)
      (λ r k h e.
      let inside : r < row_count p = omega arith in
      let is = chosen_at r k inside e in
      ap (λ (o : Option ℕ). unwrap_or o 0) is.0)

  pub in_order : IsInOrder p kept (kept_list p kept)
  in_order = record {
    defined = λ k c. let m = member k c in ap (λ (o : Option ℕ). is_some o) m.1;
    only = λ k c. let m = member k c in m.2;
    all = listed;
    ordered = rising;
  }

module _ (p : Program) where
  object_place : (k : ℕ) → is_some (chosen_row p k) ≡ true → made_name_of p k ≡ None → unwrap_or (chosen_row p k) 0 < symbol_count p.world
  unfolding chosen_of
  object_place k defined none =
      let r : ℕ = unwrap_or (chosen_row p k) 0 in
      let parts = row_parts p k r (some_is (chosen_row p k) defined) in
      let chosen : object_definition p k ≡ Some r = ap (λ (o : Option ℕ). option_or (option_map (made_row p) o) (object_definition p k)) (sym none) ∙ parts.1 in
      let has = object_has p k r chosen in
      definition_of_object p r has.0.0 has.1

  made_place : (k n : ℕ) → is_some (chosen_row p k) ≡ true → made_name_of p k ≡ Some n → unwrap_or (chosen_row p k) 0 ≡ made_row p n
  unfolding chosen_of
  made_place k n defined made =
      let r : ℕ = unwrap_or (chosen_row p k) 0 in
      let parts = row_parts p k r (some_is (chosen_row p k) defined) in
      let chosen : Some (made_row p n) ≡ Some r = ap (λ (o : Option ℕ). option_or (option_map (made_row p) o) (object_definition p k)) (sym made) ∙ parts.1 in
      sym (same_Some (made_row p n) r chosen)

  pub made_last : AreMadeNamesLast p
  made_last = record { objects = object_place; made = made_place }
