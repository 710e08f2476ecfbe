-- The root of tasks is a key.
use Rattle.std.proofs.Common.{◌≡◌, ◌<◌, ℕ, List, Bool, true, false, Option, Some, None, length, get_or, refl, sym, ap, ◌∙◌, subst, arith}
use Rattle.std.specs.Prelude.{nat_lt, cond}
use Rattle.std.specs.List.{position, position_or_len}
use Rattle.std.proofs.lemmas.Bool.Decides.{nat_tests}
use Rattle.std.proofs.lemmas.List.Sums.{passes_at_first}
use Rattle.glk_keys.specs.KeyLaws.{long_row_keys, nth_key}
use Rattle.glk_keys.specs.KeyNumbers.{no_key, same_is}
use Rattle.glk_keys.specs.Keys.{Key, named, same_key, row_key, row_keys, key_id, find_key}
use Rattle.glk_keys.specs.Programs.{Program}
use Rattle.glk_keys.specs.Rows.{row_at, row_count}
use Rattle.glk_merge.specs.Mergings.{IsKey, IsSomeKey}
use Rattle.glk_obj.specs.Symbols.{abi0}
use Rattle.glk_tasks.specs.Laws.{AreRootsKeys}
use Rattle.glk_tasks.specs.Lists.{root_key}

-- the place that is found is one of the list, and is the first
found_in : {X : Type 0} (test : X → Bool) (xs : List X) (n i : ℕ) (b : Bool) → nat_lt n (length xs) ≡ b → cond b (Some n) None ≡ Some i → (n ≡ i) × (i < length xs)
found_in test xs n i true inside e = let same : n ≡ i = cc in (same, grind (arith, nat_tests))
found_in test xs n i false outside e = absurd (let bad : None ≡ Some i = e in cc)

pub position_is : {X : Type 0} (test : X → Bool) (xs : List X) (i : ℕ) → position test xs ≡ Some i → (position_or_len test xs ≡ i) × (i < length xs)
position_is test xs i e = found_in test xs (position_or_len test xs) i (nat_lt (position_or_len test xs) (length xs)) refl e

-- the number of a key with a name is the number of that key
module _ (p : Program) (name : List ℕ) (abi : ℕ) where
  by_found : (found : Option ℕ) → position (same_key (named name abi)) (row_keys p) ≡ found → IsSomeKey p found
  by_found None e = tt
  by_found (Some k) e =
      let at = position_is (same_key (named name abi)) (row_keys p) k e in
      let long = long_row_keys p in
      let inside : k < row_count p = omega (arith, at.1, long) in
      let first = passes_at_first (same_key (named name abi)) (row_keys p) no_key (omega (arith, at.0, at.1)) in
      let P : ℕ → Type 0 = λ n. named name abi ≡ row_key (row_at p n) in
      let Q : ℕ → Type 0 = λ n. named name abi ≡ get_key n in
      let here : named name abi ≡ get_key k = subst Q at.0 (same_is (named name abi) (get_key (position_or_len (same_key (named name abi)) (row_keys p))) first) in
      let same : named name abi ≡ row_key (row_at p k) = here ∙ nth_key p k inside in
      record { row = inside; own = ap (λ (key : Key). position_or_len (same_key key) (row_keys p)) (sym same) ∙ at.0 }
    where
      get_key : ℕ → Key
      get_key n = get_or (row_keys p) n no_key

  pub found_key : IsSomeKey p (find_key p name abi)
  unfolding find_key
  found_key = by_found (position (same_key (named name abi)) (row_keys p)) refl

pub root_keys : AreRootsKeys
root_keys p name = found_key p name abi0
