-- Which strong definitions of a key clash, by the least and the greatest of them.
use Rattle.std.proofs.Common.{◌≡◌, ℕ, zero, suc, ◌+◌, ◌-◌, ◌<◌, ◌≤◌, List, [], ◌∷◌, Bool, true, false, Option, Some, None, inl, inr, refl, ap, ◌∙◌, subst, arith, length}
use Rattle.std.specs.Prelude.{◌&&◌, ◌==◌, is_some, if◌then◌else◌}
use Rattle.std.specs.List.{filter, filter_map, range_with_len}
use Rattle.std.proofs.lemmas.Bool.{eqb-true, eq-eqb, cases_lt}
use Rattle.glk_table.specs.declared.ranks.RankClass.TheVariants.{Strong}
use Rattle.glk_keys.proofs.Choosing.{is_strong_one, strong_is, not_true}
use Rattle.glk_keys.proofs.Ranges.{filter_filter, filter_none, filter_least, filter_some, last_greatest}
use Rattle.glk_keys.specs.Choices.{Defines, IsLeastStrong, IsGreatestStrong}
use Rattle.glk_keys.specs.Clashes.{Clash, last_from, clash_among, clash_of, begins_at, clash_at, first_clash}
use Rattle.glk_keys.specs.Definitions.{defines, definitions_of, strong_definitions, made_name_of, first_of}
use Rattle.glk_keys.specs.Keys.{key_id}
use Rattle.glk_keys.specs.Programs.{Program}
use Rattle.glk_keys.specs.Rows.{row_at, row_count, positions, is_strong}

-- no clash in a list of none or one; the first and the last of more
clash_of_more : (f : ℕ) (rest : List ℕ) → 0 < length rest → clash_among (f ∷ rest) ≡ Some (record { first = f; second = last_from f rest })
clash_of_more f [] h = absurd (omega arith)
clash_of_more f (q ∷ later) h = refl

unless_begun : (id f : ℕ) (made : Bool) (rest : List ℕ) → (f == id) ≡ false → begins_at id (if made then None else clash_among (f ∷ rest)) ≡ None
unless_begun id f true rest e = refl
unless_begun id f false [] e = refl
unless_begun id f false (q ∷ later) e = rw e refl

made_or_none : (made : Bool) → (if made then None else clash_among []) ≡ None
made_or_none true = refl
made_or_none false = refl

made_or_one : (made : Bool) (f : ℕ) → (if made then None else clash_among (f ∷ [])) ≡ None
made_or_one true f = refl
made_or_one false f = refl

module _ (p : Program) (k : ℕ) where
  abbrev test : ℕ → Bool
  test q = defines p k q && is_strong (row_at p q)

  strong_list : strong_definitions p k ≡ filter test (positions p)
  unfolding definitions_of
  strong_list = filter_filter (defines p k) (λ r. is_strong (row_at p r)) (positions p)

  none_list : ((q : ℕ) → Defines p k q Strong → ⊥) → strong_definitions p k ≡ []
  none_list none = strong_list ∙ filter_none test 0 (row_count p) (λ q low high. not_true (test q) (λ e. none q (strong_is p k q (omega arith) e)))

  rest_of : ℕ → List ℕ
  rest_of f = filter test (range_with_len (f + 1) (0 + row_count p - (f + 1)))

  least_list : (f : ℕ) → IsLeastStrong p k f → strong_definitions p k ≡ f ∷ rest_of f
  unfolding rest_of
  least_list f l =
      let h = l.strong.row in
      strong_list ∙ filter_least test 0 (row_count p) f (omega arith) (omega arith) (is_strong_one p k f l.strong) (λ q low before. not_true (test q) (λ e.
      let there : q < row_count p = omega arith in
      let above = l.least q (strong_is p k q there e) in
      omega arith))

  -- a key without strong definitions
  pub clash_none : ((q : ℕ) → Defines p k q Strong → ⊥) → clash_of p k ≡ None
  unfolding clash_of
  clash_none none = ap (λ l. if is_some (made_name_of p k) then None else clash_among l) (none_list none) ∙ made_or_none (is_some (made_name_of p k))

  -- a clash begins at no other row than the least
  pub clash_elsewhere : (id f : ℕ) → IsLeastStrong p k f → (f ≡ id → ⊥) → begins_at id (clash_of p k) ≡ None
  unfolding clash_of
  clash_elsewhere id f l differs =
      ap (λ s. begins_at id (if is_some (made_name_of p k) then None else clash_among s)) (least_list f l)
      ∙ unless_begun id f (is_some (made_name_of p k)) (rest_of f) (not_true (f == id) (λ e. differs (eqb-true f id e)))

  -- one alone is no clash
  pub clash_alone : (f : ℕ) → IsLeastStrong p k f → IsGreatestStrong p k f → clash_of p k ≡ None
  unfolding clash_of rest_of
  clash_alone f l g =
      let h = l.strong.row in
      let empty : rest_of f ≡ [] = filter_none test (f + 1) (0 + row_count p - (f + 1)) (λ q low high. not_true (test q) (λ e.
      let there : q < row_count p = omega arith in
      let below = g.greatest q (strong_is p k q there e) in
      absurd (omega arith))) in
      ap (λ s. if is_some (made_name_of p k) then None else clash_among s) (least_list f l ∙ ap (λ r. f ∷ r) empty) ∙ made_or_one (is_some (made_name_of p k)) f

  -- two are, unless the key is a made name
  pub clash_two : (f g : ℕ) → IsLeastStrong p k f → IsGreatestStrong p k g → f < g → is_some (made_name_of p k) ≡ false → clash_of p k ≡ Some (record { first = f; second = g })
  unfolding clash_of rest_of
  clash_two f g l m less unmade =
      let h = m.strong.row in
      let some = filter_some test (f + 1) (0 + row_count p - (f + 1)) g (omega arith) (omega arith) (is_strong_one p k g m.strong) in
      let last : last_from f (rest_of f) ≡ g = last_greatest test f (f + 1) (0 + row_count p - (f + 1)) g (omega arith) (omega arith) (is_strong_one p k g m.strong) (λ q above high. not_true (test q) (λ e.
      let there : q < row_count p = omega arith in
      let below = m.greatest q (strong_is p k q there e) in
      absurd (omega arith))) in
      (λ z. if unmade z then None else clash_among (least_list f l z)) ∙ clash_of_more f (rest_of f) some ∙ ap (λ s. Some (record { first = f; second = s })) last

  -- and nothing is where it is one
  pub clash_made : is_some (made_name_of p k) ≡ true → clash_of p k ≡ None
  unfolding clash_of
  clash_made made = rw made refl

-- a clash that begins at its row
pub clash_begins : (p : Program) (id g : ℕ) → clash_of p (key_id p id) ≡ Some (record { first = id; second = g }) → clash_at p id ≡ Some (record { first = id; second = g })
unfolding clash_at
clash_begins p id g e = ap (begins_at id) e ∙ ap (λ b. if b then Some (record { first = id; second = g }) else None) (eq-eqb id id refl)

pub clash_begins_not : (p : Program) (id : ℕ) → begins_at id (clash_of p (key_id p id)) ≡ None → clash_at p id ≡ None
unfolding clash_at
clash_begins_not p id e = e

pub clash_begins_none : (p : Program) (id : ℕ) → clash_of p (key_id p id) ≡ None → clash_at p id ≡ None
unfolding clash_at
clash_begins_none p id e = ap (begins_at id) e

-- The first of all clashes.

first_map : (f : ℕ → Option Clash) (a n r : ℕ) (clash : Clash) → a ≤ r → r < a + n → f r ≡ Some clash → ((q : ℕ) → a ≤ q → q < r → f q ≡ None) → first_of (filter_map f (range_with_len a n)) ≡ Some clash
first_map f a zero r clash low high is before = absurd (omega arith)
first_map f a (suc n) r clash low high is before =
    elim (cases_lt a r) [
      | inl m ↦ rw (before a (omega arith) m) (first_map f (a + 1) n r clash (omega arith) (omega arith) is (λ q l h. before q (omega arith) h))
      | inr g ↦
          let same : r ≡ a = omega arith in
          let here : f a ≡ Some clash = subst (λ (k : ℕ). f k ≡ Some clash) same is in
          rw here refl
    ]

map_none : (f : ℕ → Option Clash) (a n : ℕ) → ((q : ℕ) → a ≤ q → q < a + n → f q ≡ None) → first_of (filter_map f (range_with_len a n)) ≡ None
map_none f a zero none = refl
map_none f a (suc n) none = rw (none a (omega arith) (omega arith)) (map_none f (a + 1) n (λ q l h. none q (omega arith) (omega arith)))

pub first_clash_is : (p : Program) (r : ℕ) (clash : Clash) → r < row_count p → clash_at p r ≡ Some clash → ((q : ℕ) → q < r → clash_at p q ≡ None) → first_clash p ≡ Some clash
unfolding first_clash
first_clash_is p r clash h is before = first_map (clash_at p) 0 (row_count p) r clash (omega arith) (omega arith) is (λ q low m. before q m)

pub no_clash : (p : Program) → ((q : ℕ) → q < row_count p → clash_at p q ≡ None) → first_clash p ≡ None
unfolding first_clash
no_clash p none = map_none (clash_at p) 0 (row_count p) (λ q low high. none q (omega arith))
