-- The kept keys of one row more.
use Rattle.std.proofs.Common.{◌≡◌, ◌+◌, ℕ, zero, suc, Bool, [], ◌∷◌, ◌++◌, Option, Some, None, refl, ap, arith, append-nil}
use Rattle.std.specs.List.{filter_map, range_with_len}
use Rattle.std.proofs.lemmas.List.Elements.{filter_map-append}

range_more : (a n j : ℕ) → a + n ≡ j → range_with_len a (n + 1) ≡ range_with_len a n ++ j ∷ []
range_more a zero j e = let h : a ≡ j = omega arith in rw h refl
range_more a (suc n) j e = let m : suc n + 1 ≡ suc (n + 1) = omega arith in rw m (ap (λ rest. a ∷ rest) (range_more (a + 1) n j (omega arith)))

module _ (f : ℕ → Option ℕ) (i : ℕ) where
  pub row_more : (key : ℕ) → f i ≡ Some key → filter_map f (range_with_len 0 (i + 1)) ≡ filter_map f (range_with_len 0 i) ++ key ∷ []
  row_more key e = rw (range_more 0 i i (omega arith), filter_map-append) (simp e)

  pub row_same : f i ≡ None → filter_map f (range_with_len 0 (i + 1)) ≡ filter_map f (range_with_len 0 i)
  row_same e = rw (range_more 0 i i (omega arith), filter_map-append) (simp (e, append-nil))
