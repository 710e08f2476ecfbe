-- What can be decided, besides what glk_package has of it: facts of facts that hold, signed numbers, and searches below a bound.
use Rattle.std.proofs.Common.{◌≡◌, ◌<◌, ℕ, zero, suc, ℤ, Bool, true, false, List, [], ◌∷◌, length, get_or, All, ◌⊎◌, inl, inr, refl, sym, subst, arith}
use Rattle.std.specs.Prelude.{T, not, ◌≤ℤ◌}
use Rattle.std.specs.List.{Contains}
use Rattle.std.proofs.lemmas.Bool.{cases_eq}
use Rattle.std.proofs.lemmas.List.Elements.{All-nil, All-cons, All-head, All-tail}
use Rattle.glk_package.proofs.Decided.{IsDecided, negated}
use lib.Signed.{lt_z, lt_z_yes, lt_z_no, clash_ℤ}

-- Facts: the second is asked where the first holds.
module _ (P Q : Type 0) where
  pub both : IsDecided P → (P → IsDecided Q) → IsDecided (P × Q)
  both (inl p) q = second (q p)
    where
      second : IsDecided Q → IsDecided (P × Q)
      second (inl h) = inl (p, h)
      second (inr n) = inr (λ h. n h.1)
  both (inr n) q = inr (λ h. n h.0)

-- Numbers.

pub equal : (m n : ℕ) → IsDecided (m ≡ n)
equal m n = cases_eq m n

pub signed_most : (a b : ℤ) → IsDecided (a ≤ℤ b)
signed_most a b = by_test (lt_z b a) refl
  where
    by_test : (t : Bool) → lt_z b a ≡ t → IsDecided (a ≤ℤ b)
    by_test true e = inr (λ h. clash_ℤ (lt_z_yes (subst T (sym e) tt)) h)
    by_test false e = inl (lt_z_no (subst (λ (x : Bool). T (not x)) (sym e) tt))

-- Searches.

module _ (P : ℕ → Type 0) where
  -- the least number below a bound of which it holds
  pub record IsLeast (n : ℕ) : Type 0 where
    pub number : ℕ
    pub below : number < n
    pub holds : P number
    pub least : (i : ℕ) → i < number → P i → ⊥

  pub first_below : (n : ℕ) → ((i : ℕ) → i < n → IsDecided (P i)) → IsLeast n ⊎ ((i : ℕ) → i < n → P i → ⊥)
  first_below zero each = inr (λ i lt. absurd (omega (arith, lt)))
  first_below (suc n) each = before (first_below n (λ i lt. each i (omega (arith, lt))))
    where
      here : ((i : ℕ) → i < n → P i → ⊥) → IsDecided (P n) → IsLeast (suc n) ⊎ ((i : ℕ) → i < suc n → P i → ⊥)
      here none (inl p) = inl (record { number = n; below = omega arith; holds = p; least = none })
      here none (inr not_n) = inr (λ i lt p. elim (cases_eq i n) [
        | inl e ↦ not_n (subst P e p)
        | inr ne ↦ none i (omega (arith, lt, ne)) p
      ])

      before : IsLeast n ⊎ ((i : ℕ) → i < n → P i → ⊥) → IsLeast (suc n) ⊎ ((i : ℕ) → i < suc n → P i → ⊥)
      before (inl f) = inl (record { number = f.number; below = omega (arith, f.below); holds = f.holds; least = f.least })
      before (inr none) = here none (each n (omega arith))

  pub some_below : (n : ℕ) → ((i : ℕ) → i < n → IsDecided (P i)) → IsDecided ((i : ℕ) × (i < n) × P i)
  some_below n each = elim (first_below n each) [
    | inl f ↦ inl (f.number, f.below, f.holds)
    | inr none ↦ inr (λ h. none h.0 h.1 h.2)
  ]

pub all_below : (P : ℕ → Type 0) (n : ℕ) → ((i : ℕ) → i < n → IsDecided (P i)) → IsDecided ((i : ℕ) → i < n → P i)
all_below P n each = elim (first_below (λ i. P i → ⊥) n (λ i lt. negated (P i) (each i lt))) [
  | inl f ↦ inr (λ all. f.holds (all f.number f.below))
  | inr none ↦ inl (λ i lt. not_not i lt (each i lt) (none i lt))
]
  where
    not_not : (i : ℕ) → i < n → IsDecided (P i) → ((P i → ⊥) → ⊥) → P i
    not_not i lt (inl p) twice = p
    not_not i lt (inr not_p) twice = absurd (twice not_p)

pub all_in : {X : Type 0} (P : X → Type 0) → ((x : X) → IsDecided (P x)) → (xs : List X) → IsDecided (All P xs)
all_in P each [] = inl (All-nil P)
all_in P each (x ∷ xs) = here (each x) (all_in P each xs)
  where
    here : IsDecided (P x) → IsDecided (All P xs) → IsDecided (All P (x ∷ xs))
    here (inl p) (inl all) = inl (All-cons P x xs p all)
    here (inl p) (inr not_all) = inr (λ all. not_all (All-tail P x xs all))
    here (inr not_p) later = inr (λ all. not_p (All-head P x xs all))

pub contains : {X : Type 0} → ((a b : X) → IsDecided (a ≡ b)) → (xs : List X) (x : X) → IsDecided (Contains xs x)
contains same xs x = some_below (λ k. get_or xs k x ≡ x) (length xs) (λ k lt. same (get_or xs k x) x)
