-- The numbers of a range that pass a test: the first of them, the last of them, and tests of all of them.
use Rattle.std.proofs.Common.{◌≡◌, ℕ, zero, suc, ◌+◌, ◌-◌, ◌<◌, ◌≤◌, List, [], ◌∷◌, Bool, true, false, cond, Some, None, inl, inr, refl, sym, ap, ◌∙◌, arith, length, subst}
use Rattle.std.specs.Prelude.{◌&&◌}
use Rattle.std.specs.List.{filter, find, list_all, range_with_len}
use Rattle.std.proofs.lemmas.Bool.{cases_lt}
use Rattle.glk_keys.specs.Definitions.{first_of}
use Rattle.glk_keys.specs.Clashes.{last_from}

module _ {X : Type 0} where
  -- the first that passes
  pub first_filter : (f : X → Bool) (xs : List X) → first_of (filter f xs) ≡ find f xs
  first_filter f [] = refl
  first_filter f (x ∷ xs) = elim (f x) as (λ b. first_of (cond b (x ∷ filter f xs) (filter f xs)) ≡ cond b (Some x) (find f xs)) [ true ↦ refl | false ↦ first_filter f xs ]

  -- a test after a test is a test of both
  pub find_filter : (f g : X → Bool) (xs : List X) → find g (filter f xs) ≡ find (λ x. f x && g x) xs
  find_filter f g [] = refl
  find_filter f g (x ∷ xs) =
      elim (f x) as (λ b. find g (cond b (x ∷ filter f xs) (filter f xs)) ≡ cond (b && g x) (Some x) (find (λ y. f y && g y) xs)) [
        | true ↦ ap (λ o. cond (g x) (Some x) o) (find_filter f g xs)
        | false ↦ find_filter f g xs
      ]

  pub filter_filter : (f g : X → Bool) (xs : List X) → filter g (filter f xs) ≡ filter (λ x. f x && g x) xs
  filter_filter f g [] = refl
  filter_filter f g (x ∷ xs) =
      elim (f x) as (λ b. filter g (cond b (x ∷ filter f xs) (filter f xs)) ≡ cond (b && g x) (x ∷ filter (λ y. f y && g y) xs) (filter (λ y. f y && g y) xs)) [
        | true ↦ ap (λ l. cond (g x) (x ∷ l) l) (filter_filter f g xs)
        | false ↦ filter_filter f g xs
      ]

-- all numbers of a range from a on fail, or pass
abbrev pub AllFail : (ℕ → Bool) → ℕ → ℕ → Type 0
AllFail f a n = (q : ℕ) → a ≤ q → q < a + n → f q ≡ false

pub find_none : (f : ℕ → Bool) (a n : ℕ) → AllFail f a n → find f (range_with_len a n) ≡ None
find_none f a zero none = refl
find_none f a (suc n) none = rw (none a (omega arith) (omega arith)) (find_none f (a + 1) n (λ q low high. none q (omega arith) (omega arith)))

pub find_least : (f : ℕ → Bool) (a n r : ℕ) → a ≤ r → r < a + n → f r ≡ true → ((q : ℕ) → a ≤ q → q < r → f q ≡ false) → find f (range_with_len a n) ≡ Some r
find_least f a zero r low high pass before = absurd (omega arith)
find_least f a (suc n) r low high pass before =
    elim (cases_lt a r) [
      | inl m ↦ rw (before a (omega arith) m) (find_least f (a + 1) n r (omega arith) (omega arith) pass (λ q l h. before q (omega arith) h))
      | inr g ↦
          let same : r ≡ a = omega arith in
          let here : f a ≡ true = subst (λ (k : ℕ). f k ≡ true) same pass in
          rw here (ap (λ k. Some k) (sym same))
    ]

pub filter_none : (f : ℕ → Bool) (a n : ℕ) → AllFail f a n → filter f (range_with_len a n) ≡ []
filter_none f a zero none = refl
filter_none f a (suc n) none = rw (none a (omega arith) (omega arith)) (filter_none f (a + 1) n (λ q low high. none q (omega arith) (omega arith)))

-- a list of those that pass begins with the least
pub filter_least : (f : ℕ → Bool) (a n r : ℕ) → a ≤ r → r < a + n → f r ≡ true → ((q : ℕ) → a ≤ q → q < r → f q ≡ false)
    → filter f (range_with_len a n) ≡ r ∷ filter f (range_with_len (r + 1) (a + n - (r + 1)))
filter_least f a zero r low high pass before = absurd (omega arith)
filter_least f a (suc n) r low high pass before =
    elim (cases_lt a r) [
      | inl m ↦
          let rest : a + 1 + n - (r + 1) ≡ a + suc n - (r + 1) = omega arith in
          rw (before a (omega arith) m) (filter_least f (a + 1) n r (omega arith) (omega arith) pass (λ q l h. before q (omega arith) h) ∙ ap (λ k. r ∷ filter f (range_with_len (r + 1) k)) rest)
      | inr g ↦
          let same : a ≡ r = omega arith in
          let here : f a ≡ true = subst (λ (k : ℕ). f k ≡ true) (sym same) pass in
          let rest : n ≡ a + suc n - (r + 1) = omega arith in
          rw here (λ z. same z ∷ filter f (range_with_len (same z + 1) (rest z)))
    ]

-- and ends with the greatest
pub last_greatest : (f : ℕ → Bool) (s b m g : ℕ) → b ≤ g → g < b + m → f g ≡ true → ((q : ℕ) → g < q → q < b + m → f q ≡ false) → last_from s (filter f (range_with_len b m)) ≡ g
last_greatest f s b zero g low high pass after = absurd (omega arith)
last_greatest f s b (suc m) g low high pass after =
    elim (cases_lt b g) [
      | inl lt ↦
          let t : ℕ = cond (f b) b s in
          let deeper = last_greatest f t (b + 1) m g (omega arith) (omega arith) pass (λ q l h. after q l (omega arith)) in
          (elim (f b) as (λ v. last_from (cond v b s) (filter f (range_with_len (b + 1) m)) ≡ g → last_from s (cond v (b ∷ filter f (range_with_len (b + 1) m)) (filter f (range_with_len (b + 1) m))) ≡ g) [ true ↦ λ e. e | false ↦ λ e. e ]) deeper
      | inr ge ↦
          let same : b ≡ g = omega arith in
          let here : f b ≡ true = subst (λ (k : ℕ). f k ≡ true) (sym same) pass in
          let none = filter_none f (b + 1) m (λ q l h. after q (omega arith) (omega arith)) in
          rw (here, none) same
    ]

pub filter_some : (f : ℕ → Bool) (b m g : ℕ) → b ≤ g → g < b + m → f g ≡ true → 0 < length (filter f (range_with_len b m))
filter_some f b zero g low high pass = absurd (omega arith)
filter_some f b (suc m) g low high pass =
    elim (cases_lt b g) [
      | inl lt ↦
          let deeper = filter_some f (b + 1) m g (omega arith) (omega arith) pass in
          (elim (f b) as (λ v. 0 < length (filter f (range_with_len (b + 1) m)) → 0 < length (cond v (b ∷ filter f (range_with_len (b + 1) m)) (filter f (range_with_len (b + 1) m)))) [ true ↦ λ e. omega arith | false ↦ λ e. e ]) deeper
      | inr ge ↦
          let same : b ≡ g = omega arith in
          let here : f b ≡ true = subst (λ (k : ℕ). f k ≡ true) (sym same) pass in
          rw here (omega arith)
    ]

-- a test that all pass which pass another, and one that some of them does not
pub all_pass : (f h : ℕ → Bool) (a n : ℕ) → ((q : ℕ) → a ≤ q → q < a + n → f q ≡ true → h q ≡ true) → list_all h (filter f (range_with_len a n)) ≡ true
all_pass f h a zero each = refl
all_pass f h a (suc n) each =
    let later = all_pass f h (a + 1) n (λ q l u e. each q (omega arith) (omega arith) e) in
    (elim (f a) as (λ v. (v ≡ true → h a ≡ true) → list_all h (cond v (a ∷ filter f (range_with_len (a + 1) n)) (filter f (range_with_len (a + 1) n))) ≡ true) [
      | true ↦ λ e. rw (e refl) later
      | false ↦ λ e. later
    ]) (each a (omega arith) (omega arith))

pub some_fails : (f h : ℕ → Bool) (a n r : ℕ) → a ≤ r → r < a + n → f r ≡ true → h r ≡ false → list_all h (filter f (range_with_len a n)) ≡ false
some_fails f h a zero r low high pass miss = absurd (omega arith)
some_fails f h a (suc n) r low high pass miss =
    elim (cases_lt a r) [
      | inl lt ↦
          let later = some_fails f h (a + 1) n r (omega arith) (omega arith) pass miss in
          (elim (f a) as (λ v. list_all h (cond v (a ∷ filter f (range_with_len (a + 1) n)) (filter f (range_with_len (a + 1) n))) ≡ false) [
            | true ↦ (elim (h a) as (λ w. (w && list_all h (filter f (range_with_len (a + 1) n))) ≡ false) [ true ↦ later | false ↦ refl ])
            | false ↦ later
          ])
      | inr ge ↦
          let same : r ≡ a = omega arith in
          let here : f a ≡ true = subst (λ (k : ℕ). f k ≡ true) same pass in
          let bad : h a ≡ false = subst (λ (k : ℕ). h k ≡ false) same miss in
          rw (here, bad) refl
    ]
