-- Items in groups: each item is in its group, also where groups are added after the others.
use Rattle.std.proofs.Common.{◌≡◌, ◌<◌, ◌≤◌, ◌+◌, ◌-◌, ℕ, zero, suc, ltb, List, [], ◌∷◌, ◌++◌, length, get_or, take, true, false, inl, inr, refl, sym, ap, ◌∙◌, arith, add-one}
use Rattle.std.specs.List.{sum_by}
use Rattle.std.proofs.Math.Seq.{take-suc}
use Rattle.std.proofs.lemmas.Bool.{cases_lt}
use Rattle.std.proofs.lemmas.Bool.Decides.{nat_tests}
use Rattle.std.proofs.lemmas.List.{take-append-le, take_all}
use Rattle.std.proofs.lemmas.List.Sums.{sum_by-cons, sum_by-take-le, sum_by_push}
use Rattle.glk_base.specs.Groups.{group_of, group_start}

-- a test of numbers that holds, and one that does not
pub lt_true : (a b : ℕ) → a < b → ltb a b ≡ true
lt_true a b l = grind (arith, nat_tests)

pub lt_false : (a b : ℕ) → b ≤ a → ltb a b ≡ false
lt_false a b g = grind (arith, nat_tests)

module _ {A : Type 0} (size : A → ℕ) where
  -- an item of the first group, and one of the others
  pub group_here : (x : A) (xs : List A) (n : ℕ) → n < size x → group_of size (x ∷ xs) n ≡ 0
  unfolding group_of
  group_here x xs n l = rw (lt_true n (size x) l) refl

  pub group_behind : (x : A) (xs : List A) (n : ℕ) → size x ≤ n → group_of size (x ∷ xs) n ≡ suc (group_of size xs (n - size x))
  unfolding group_of
  group_behind x xs n g = rw (lt_false n (size x) g) refl

  pub start_none : (xs : List A) → group_start size xs 0 ≡ 0
  unfolding group_start
  start_none xs = refl

  pub start_behind : (x : A) (xs : List A) (k : ℕ) → group_start size (x ∷ xs) (suc k) ≡ size x + group_start size xs k
  unfolding group_start
  start_behind x xs k = sum_by-cons size x (take k xs)

  pub start_all : (xs : List A) → group_start size xs (length xs) ≡ sum_by size xs
  unfolding group_start
  start_all xs = ap (λ l. sum_by size l) (take_all (length xs) xs (omega arith))

  pub start_most : (xs : List A) (k : ℕ) → group_start size xs k ≤ sum_by size xs
  unfolding group_start
  start_most xs k = sum_by-take-le size xs k

  -- each item's group is there
  pub group_within : (xs : List A) (n : ℕ) → n < sum_by size xs → group_of size xs n < length xs
  group_within [] n l = absurd (omega (arith, l))
  group_within (x ∷ xs) n l =
      elim (cases_lt n (size x)) [
        | inl m ↦ let e = group_here x xs n m in omega (arith, e)
        | inr g ↦
            let e = group_behind x xs n g in
            let h = group_within xs (n - size x) (omega (arith, l, g, sum_by-cons size x xs)) in
            omega (arith, e, h)
      ]

  -- each item is in its group
  pub group_holds : (xs : List A) (d : A) (n : ℕ) → n < sum_by size xs
      → (group_start size xs (group_of size xs n) ≤ n) × (n < group_start size xs (group_of size xs n) + size (get_or xs (group_of size xs n) d))
  group_holds [] d n l = absurd (omega (arith, l))
  group_holds (x ∷ xs) d n l =
      elim (cases_lt n (size x)) [
        | inl m ↦
            let e = group_here x xs n m in
            let f = start_none (x ∷ xs) in
            rw (e, f) (omega arith, omega (arith, m))
        | inr g ↦
            let e = group_behind x xs n g in
            let f = start_behind x xs (group_of size xs (n - size x)) in
            let h = group_holds xs d (n - size x) (omega (arith, l, g, sum_by-cons size x xs)) in
            rw (e, f) (omega (arith, g, h.0), omega (arith, g, h.0, h.1))
      ]

  -- it is the one group that does
  pub group_is : (xs : List A) (d : A) (k n : ℕ) → k < length xs → group_start size xs k ≤ n → n < group_start size xs k + size (get_or xs k d) → group_of size xs n ≡ k
  group_is [] d k n l low high = absurd (omega (arith, l))
  group_is (x ∷ xs) d zero n l low high =
      let f = start_none (x ∷ xs) in
      group_here x xs n (omega (arith, f, high))
  group_is (x ∷ xs) d (suc k) n l low high =
      let f = start_behind x xs k in
      let h = group_is xs d k (n - size x) (omega (arith, l)) (omega (arith, f, low)) (omega (arith, f, low, high)) in
      group_behind x xs n (omega (arith, f, low)) ∙ ap suc h

  -- one group more
  pub group_old : (xs : List A) (x : A) (n : ℕ) → n < sum_by size xs → group_of size (xs ++ x ∷ []) n ≡ group_of size xs n
  group_old [] x n l = absurd (omega (arith, l))
  group_old (y ∷ xs) x n l =
      elim (cases_lt n (size y)) [
        | inl m ↦ group_here y (xs ++ x ∷ []) n m ∙ sym (group_here y xs n m)
        | inr g ↦
            group_behind y (xs ++ x ∷ []) n g ∙ ap suc (group_old xs x (n - size y) (omega (arith, l, g, sum_by-cons size y xs))) ∙ sym (group_behind y xs n g)
      ]

  pub group_new : (xs : List A) (x : A) (n : ℕ) → sum_by size xs ≤ n → n < sum_by size xs + size x → group_of size (xs ++ x ∷ []) n ≡ length xs
  group_new [] x n low high = group_here x [] n (omega (arith, high))
  group_new (y ∷ xs) x n low high =
      let all = sum_by-cons size y xs in
      group_behind y (xs ++ x ∷ []) n (omega (arith, low, all)) ∙ ap suc (group_new xs x (n - size y) (omega (arith, low, all)) (omega (arith, low, high, all)))

  pub start_more : (xs : List A) (x : A) (k : ℕ) → k ≤ length xs → group_start size (xs ++ x ∷ []) k ≡ group_start size xs k
  unfolding group_start
  start_more xs x k l = ap (λ ys. sum_by size ys) (take-append-le k xs (x ∷ []) l)

  pub start_last : (xs : List A) (x : A) → group_start size (xs ++ x ∷ []) (length xs) ≡ sum_by size xs
  start_last xs x = start_more xs x (length xs) (omega arith) ∙ start_all xs

  -- where the next group begins
  pub start_next : (xs : List A) (d : A) (k : ℕ) → k < length xs → group_start size xs (k + 1) ≡ group_start size xs k + size (get_or xs k d)
  unfolding group_start
  start_next xs d k l =
      let cut : take (k + 1) xs ≡ take k xs ++ get_or xs k d ∷ [] = rw (add-one k) (take-suc xs k d l) in
      ap (λ ys. sum_by size ys) cut ∙ sum_by_push size (take k xs) (get_or xs k d)
