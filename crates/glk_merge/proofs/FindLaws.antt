-- The key of a name, by the first row that has it or by any.
use Rattle.std.proofs.Common.{◌≡◌, ℕ, ◌<◌, List, Bool, true, false, Some, None, length, refl, ap, ◌∙◌, arith}
use Rattle.std.specs.Prelude.{nat_lt, cond}
use Rattle.std.specs.List.{position, position_or_len}
use Rattle.std.proofs.lemmas.Bool.Decides.{nat_tests}
use Rattle.std.proofs.lemmas.List.Sums.{position_or_len_is}
use Rattle.glk_keys.specs.KeyLaws.{long_row_keys, nth_key, key_within}
use Rattle.glk_keys.specs.KeyNumbers.{no_key, same_is}
use Rattle.glk_keys.specs.Keys.{Key, named, same_key, row_key, row_keys, key_id, find_key}
use Rattle.glk_keys.specs.Programs.{Program}
use Rattle.glk_keys.specs.Rows.{row_at, row_count}
use Rattle.glk_merge.specs.KeyTables.{IsNamed}

less_true : (a b : ℕ) → a < b → nat_lt a b ≡ true
less_true a b h = grind (arith, nat_tests)

less_false : (a b : ℕ) → a ≡ b → nat_lt a b ≡ false
less_false a b h = grind (arith, nat_tests)

place_some : {X : Type 0} (test : X → Bool) (xs : List X) (i : ℕ) → position_or_len test xs ≡ i → i < length xs → position test xs ≡ Some i
place_some test xs i e h = ap (λ k. cond (nat_lt k (length xs)) (Some k) None) e ∙ ap (λ b. cond b (Some i) None) (less_true i (length xs) h)

place_none : {X : Type 0} (test : X → Bool) (xs : List X) → position_or_len test xs ≡ length xs → position test xs ≡ None
place_none test xs e = ap (λ k. cond (nat_lt k (length xs)) (Some k) None) e ∙ ap (λ b. cond b (Some (length xs)) None) (less_false (length xs) (length xs) refl)

module _ (p : Program) (name : List ℕ) (abi : ℕ) where
  abbrev test : Key → Bool
  test = same_key (named name abi)

  pub found_none : ((k : ℕ) → k < row_count p → test (row_key (row_at p k)) ≡ false) → find_key p name abi ≡ None
  unfolding find_key
  found_none none =
      let long = long_row_keys p in
      place_none test (row_keys p) (position_or_len_is test (row_keys p) (length (row_keys p)) no_key (omega arith) (λ k lt. let h : k < row_count p = omega arith in ap test (nth_key p k h) ∙ none k h) (λ lt. absurd (omega arith)))

  -- some row that has it gives its key
  pub found_by : (r : ℕ) → IsNamed p name abi r → find_key p name abi ≡ Some (key_id p r)
  unfolding find_key
  found_by r n =
      let long = long_row_keys p in
      let inside = key_within p r n.row in
      let same : named name abi ≡ row_key (row_at p r) = same_is (named name abi) (row_key (row_at p r)) n.same in
      place_some test (row_keys p) (key_id p r) (ap (λ (k : Key). position_or_len (same_key k) (row_keys p)) same) (omega arith)
