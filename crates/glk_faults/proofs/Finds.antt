-- The first number that passes a test.
use Rattle.std.proofs.Common.{◌≡◌, ◌+◌, ◌<◌, ◌≤◌, ℕ, zero, suc, Bool, true, false, cond, get_or, Option, Some, None, inl, inr, refl, sym, ap, ◌∙◌, arith}
use Rattle.std.specs.List.{find, list_any, range_with_len}
use Rattle.std.proofs.lemmas.Bool.{cases_lt}
use Rattle.std.proofs.lemmas.List.Elements.{All-from_get_or}
use Rattle.std.proofs.lemmas.List.Folds.{list_any_none, list_any_at}
use Rattle.std.proofs.lemmas.List.FromFn.{length-range_with_len, get_or-range_with_len}

module _ (test : ℕ → Bool) where
  find_from : (a n i : ℕ) → a ≤ i → i < a + n → test i ≡ true → ((j : ℕ) → a ≤ j → j < i → test j ≡ false) → find test (range_with_len a n) ≡ Some i
  find_from a zero i low high is before = absurd (omega arith)
  find_from a (suc n) i low high is before = elim (cases_lt a i) [
    | inl later ↦ let not_so : test a ≡ false = before a (omega arith) later in rw not_so (find_from (a + 1) n i (omega arith) (omega arith) is (λ j up below. before j (omega arith) below))
    | inr here ↦
        let same : i ≡ a = omega arith in
        let is_so : test a ≡ true = ap test (sym same) ∙ is in
        rw is_so (ap Some (sym same))
  ]

  pub find_at : (n i : ℕ) → i < n → test i ≡ true → ((j : ℕ) → j < i → test j ≡ false) → find test (range_with_len 0 n) ≡ Some i
  find_at n i inside is before = find_from 0 n i (omega arith) (omega arith) is (λ j up below. before j below)

  none_from : (a n : ℕ) → ((j : ℕ) → a ≤ j → j < a + n → test j ≡ false) → find test (range_with_len a n) ≡ None
  none_from a zero none = refl
  none_from a (suc n) none = let not_so : test a ≡ false = none a (omega arith) (omega arith) in rw not_so (none_from (a + 1) n (λ j low high. none j (omega arith) (omega arith)))

  pub find_none : (n : ℕ) → ((j : ℕ) → j < n → test j ≡ false) → find test (range_with_len 0 n) ≡ None
  find_none n none = none_from 0 n (λ j low high. none j (omega arith))

  pub any_none : (n : ℕ) → ((j : ℕ) → j < n → test j ≡ false) → list_any test (range_with_len 0 n) ≡ false
  any_none n none =
      list_any_none test (range_with_len 0 n) (All-from_get_or (λ x. test x ≡ false) (range_with_len 0 n) 0 (λ i h.
      let long = length-range_with_len 0 n in
      let inside : i < n = omega arith in
      let e : get_or (range_with_len 0 n) i 0 ≡ i = get_or-range_with_len 0 n i 0 inside ∙ (omega arith) in
      ap test e ∙ none i inside))

  pub any_at : (n i : ℕ) → i < n → test i ≡ true → list_any test (range_with_len 0 n) ≡ true
  any_at n i inside is =
      let long = length-range_with_len 0 n in
      let e : get_or (range_with_len 0 n) i 0 ≡ i = get_or-range_with_len 0 n i 0 inside ∙ (omega arith) in
      list_any_at test (range_with_len 0 n) i 0 (omega arith) (ap test e ∙ is)

  test_none : (b : Bool) (x : ℕ) (o : Option ℕ) → cond b (Some x) o ≡ None → (b ≡ false) × (o ≡ None)
  test_none true x o e = absurd (let bad : Some x ≡ None = e in cc)
  test_none false x o e = (refl, e)

  none_found_from : (a n : ℕ) → find test (range_with_len a n) ≡ None → (j : ℕ) → a ≤ j → j < a + n → test j ≡ false
  none_found_from a zero e j low high = absurd (omega arith)
  none_found_from a (suc n) e j low high =
      let h = test_none (test a) a (find test (range_with_len (a + 1) n)) e in
      elim (cases_lt a j) [
        | inl later ↦ none_found_from (a + 1) n h.1 j (omega arith) (omega arith)
        | inr here ↦ let same : a ≡ j = omega arith in ap test (sym same) ∙ h.0
      ]

  pub none_found : (n : ℕ) → find test (range_with_len 0 n) ≡ None → (j : ℕ) → j < n → test j ≡ false
  none_found n e j inside = none_found_from 0 n e j (omega arith) (omega arith)
