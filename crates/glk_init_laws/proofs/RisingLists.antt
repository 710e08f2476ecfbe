-- Rising lists of the same numbers are one.
use Rattle.std.proofs.Common.{◌≡◌, ◌<◌, ◌⊎◌, ◌↔◌, inl, inr, ℕ, suc, List, [], ◌∷◌, refl, sym, subst, arith}
use Rattle.std.specs.List.{AllPairs, Contains}
use Rattle.std.specs.List.Sorted.{IsStrictlyIncreasing}
use Rattle.std.proofs.lemmas.List.Kept.{AllPairs-from_increasing}
use Rattle.glk_closure.proofs.Derivations.{Contains-cons_cases, Contains-head, Contains-nil}

abbrev Rises : List ℕ → Type 0
Rises xs = AllPairs (λ i j. i < j) xs

tail_rises : (x : ℕ) (xs : List ℕ) → Rises (x ∷ xs) → Rises xs
tail_rises x xs r i j d lt le = r (suc i) (suc j) d (omega arith) (omega arith)

above_head : (x : ℕ) (xs : List ℕ) → Rises (x ∷ xs) → (y : ℕ) → Contains xs y → x < y
above_head x xs r y c = subst (λ z. x < z) c.2 (r 0 (suc c.0) y (omega arith) (omega (arith, c.1)))

-- what the longer of two lists with one head has behind it
behind_head : (x y : ℕ) (xs ys : List ℕ) → Rises (x ∷ xs) → x ≡ y → (i : ℕ) → Contains xs i → Contains (y ∷ ys) i → Contains ys i
behind_head x y xs ys r same i c h = elim (Contains-cons_cases y ys i h) [
  | inl e ↦ absurd (omega (arith, above_head x xs r i c, same, e))
  | inr later ↦ later
]

in_tail : (x : ℕ) (xs : List ℕ) (i : ℕ) → Contains xs i → Contains (x ∷ xs) i
in_tail x xs i c = (suc c.0, omega (arith, c.1), c.2)

one_list : (xs ys : List ℕ) → Rises xs → Rises ys
    → ((i : ℕ) → Contains xs i → Contains ys i) → ((i : ℕ) → Contains ys i → Contains xs i) → xs ≡ ys
one_list [] [] r s to from = refl
one_list [] (y ∷ ys) r s to from = absurd (Contains-nil y (from y (Contains-head y ys)))
one_list (x ∷ xs) [] r s to from = absurd (Contains-nil x (to x (Contains-head x xs)))
one_list (x ∷ xs) (y ∷ ys) r s to from =
    let same : x ≡ y = heads (Contains-cons_cases y ys x (to x (Contains-head x xs))) (Contains-cons_cases x xs y (from y (Contains-head y ys))) in
    let rest : xs ≡ ys = one_list xs ys (tail_rises x xs r) (tail_rises y ys s)
    (λ i c. behind_head x y xs ys r same i c (to i (in_tail x xs i c)))
    (λ i c. behind_head y x ys xs s (sym same) i c (from i (in_tail y ys i c))) in
    rw (same, rest) refl
  where
    heads : (y ≡ x) ⊎ Contains ys x → (x ≡ y) ⊎ Contains xs y → x ≡ y
    heads (inl e) c = sym e
    heads (inr a) (inl e) = e
    heads (inr a) (inr b) = absurd (omega (arith, above_head y ys s x a, above_head x xs r y b))

-- lists with exactly the numbers of one set
pub one_rising : (P : ℕ → Type 0) (xs ys : List ℕ) → IsStrictlyIncreasing xs → IsStrictlyIncreasing ys
    → ((i : ℕ) → Contains xs i ↔ P i) → ((i : ℕ) → Contains ys i ↔ P i) → xs ≡ ys
one_rising P xs ys r s a b =
    one_list xs ys (AllPairs-from_increasing xs r) (AllPairs-from_increasing ys s)
    (λ i c. (b i).1 ((a i).0 c)) (λ i c. (a i).1 ((b i).0 c))
