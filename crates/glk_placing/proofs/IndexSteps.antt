-- The indices of keys, from the end of the list on.
use Rattle.std.proofs.Common.{◌≡◌, ◌∙◌, ℕ, ◌+◌, ◌-◌, ◌^◌, ◌<◌, ◌≤◌, List, [], ◌∷◌, length, get_or, set, drop, Bool, true, false, Option, Some, None, cond, refl, ap, sym, subst, arith, length-set}
use Rattle.std.specs.Prelude.{◌==◌, All, replicate, if◌then◌else◌}
use Rattle.std.specs.List.{position_from}
use Rattle.std.proofs.lemmas.Bool.{eqb-true, eq-eqb}
use Rattle.std.proofs.lemmas.Bool.Decides.{nat_tests}
use Rattle.std.proofs.lemmas.List.{drop_more, drop_all, get_or-set_same, get_or-set_other, get_or-replicate, length-replicate}
use Rattle.glk_placing.specs.Indices.{not_kept, index_in, AreIndices}
use Rattle.glk_placing.specs.Locations.{kept_index}

-- at each key its first index from i on
pub record AreIndicesFrom (list : List ℕ) (i keys : ℕ) (indices : List ℕ) : Type 0 where
  pub long : length indices ≡ keys
  pub each : (k : ℕ) → k < keys → index_in (get_or indices k 0) ≡ position_from (λ q. q == k) i (drop i list)

small_index : (i : ℕ) → i < not_kept → index_in i ≡ Some i
small_index i small = let other : (i == not_kept) ≡ false = grind (arith, nat_tests) in rw other refl

module _ (list indices : List ℕ) (i : ℕ) (small : i < not_kept) where
  abbrev x : ℕ
  x = get_or list i 0

  chosen : (k : ℕ) → k < length indices
      → index_in (get_or indices k 0) ≡ position_from (λ q. q == k) (i + 1) (drop (i + 1) list)
      → (b : Bool) → (x == k) ≡ b
      → index_in (get_or (set indices x i) k 0) ≡ cond b (Some i) (position_from (λ q. q == k) (i + 1) (drop (i + 1) list))
  chosen k known before true e =
      let same : x ≡ k = eqb-true x k e in
      let inside : x < length indices = omega arith in
      ap (λ j. index_in (get_or (set indices x i) j 0)) (sym same) ∙ (ap index_in (get_or-set_same indices x i 0 inside) ∙ small_index i small)
  chosen k known before false e =
      let other : (k ≡ x) → ⊥ = λ s. (let t : (x == k) ≡ true = eq-eqb x k (sym s) in let bad : true ≡ false = sym t ∙ e in cc) in
      ap index_in (get_or-set_other indices x k i 0 other) ∙ before

  one_index : (k : ℕ) → i < length list → k < length indices
      → index_in (get_or indices k 0) ≡ position_from (λ q. q == k) (i + 1) (drop (i + 1) list)
      → index_in (get_or (set indices x i) k 0) ≡ position_from (λ q. q == k) i (drop i list)
  one_index k inside known before = rw (drop_more list i 0 inside) (chosen k known before (x == k) refl)

pub indices_step : (list indices : List ℕ) (i next keys : ℕ) → next + 1 ≡ i → next < not_kept → next < length list
    → AreIndicesFrom list i keys indices → AreIndicesFrom list next keys (set indices (get_or list next 0) next)
indices_step list indices i next keys e small inside before = record {
  long = length-set indices (get_or list next 0) next ∙ before.long;
  each = λ k lt.
      let P : ℕ → Type 0 = λ j. index_in (get_or indices k 0) ≡ position_from (λ q. q == k) j (drop j list) in
      let known : k < length indices = omega (arith, before.long) in
      one_index list indices next small k inside known (subst P (sym e) (before.each k lt));
}

pub indices_none : (list : List ℕ) (keys : ℕ) (indices : List ℕ) → indices ≡ replicate keys not_kept → AreIndicesFrom list (length list) keys indices
indices_none list keys indices are = record {
  long = ap length are ∙ length-replicate keys not_kept;
  each = λ k lt.
      let at : get_or indices k 0 ≡ not_kept = ap (λ xs. get_or xs k 0) are ∙ get_or-replicate keys k not_kept 0 lt in
      let none : drop (length list) list ≡ [] = drop_all (length list) list (let same : length list ≤ length list = omega arith in same) in
      ap index_in at ∙ sym (ap (position_from (λ q. q == k) (length list)) none);
}

pub indices_all : (list : List ℕ) (i keys : ℕ) (indices : List ℕ) → i ≤ 0 → AreIndicesFrom list i keys indices → AreIndices list keys indices
unfolding kept_index
indices_all list i keys indices none all =
    let e : i ≡ 0 = omega arith in
    let P : ℕ → Type 0 = λ j. AreIndicesFrom list j keys indices in
    let at : AreIndicesFrom list 0 keys indices = subst P e all in
    record { long = at.long; each = at.each }

-- an index that is there is one of the list
index_here : (x : ℕ) (list : List ℕ) (k i j : ℕ) (b : Bool) → (position_from (λ q. q == k) (i + 1) list ≡ Some j → (i + 1 ≤ j) × (j < i + 1 + length list))
    → cond b (Some i) (position_from (λ q. q == k) (i + 1) list) ≡ Some j → (i ≤ j) × (j < i + length (x ∷ list))
index_here x list k i j true later e = let same : i ≡ j = cc in (omega arith, omega arith)
index_here x list k i j false later e = let h = later e in let a = h.0 in let b = h.1 in (omega (arith, a), omega (arith, b))

index_from : (list : List ℕ) (k i j : ℕ) → position_from (λ q. q == k) i list ≡ Some j → (i ≤ j) × (j < i + length list)
index_from [] k i j e = absurd (let bad : None ≡ Some j = e in cc)
index_from (x ∷ list) k i j e = index_here x list k i j (x == k) (λ h. index_from list k (i + 1) j h) e

pub index_inside : (list : List ℕ) (k j : ℕ) → kept_index list k ≡ Some j → j < length list
unfolding kept_index
index_inside list k j e = let at = (index_from list k 0 j e).1 in omega (arith, at)

-- an index in the table is one of the list
pub index_found : (list : List ℕ) (keys : ℕ) (indices : List ℕ) (k n : ℕ) → AreIndices list keys indices → k < keys → n ≡ get_or indices k 0 → (n ≡ not_kept → ⊥) → n < length list
index_found list keys indices k n are lt at other =
    let test : (n == not_kept) ≡ false = grind (arith, nat_tests) in
    let some : index_in n ≡ Some n = ap (λ b. if b then None else Some n) test in
    index_inside list k n (sym (are.each k lt) ∙ (ap index_in (sym at) ∙ some))
