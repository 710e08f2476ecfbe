-- Lists of numbers: what is missing of one in another.
use Rattle.std.proofs.Common.{◌≡◌, ◌<◌, ◌≤◌, ◌+◌, ℕ, List, [], ◌∷◌, ◌⊎◌, inl, inr, refl, sym, subst, arith}
use Rattle.std.specs.List.{Contains}
use Rattle.std.specs.Bool.{Decides}
use Rattle.std.proofs.lemmas.Bool.Decides.{Decides-eqb}
use Rattle.std.proofs.Common.{◌==◌, Bool, true, false, true≢false}
use Rattle.glk_closure.proofs.Derivations.{Contains-cons_cases, Contains-head, Contains-nil}
use Rattle.glk_closure_laws.proofs.Clauses.{in_tail, member}

by_test : {P : Type 0} (t : Bool) → Decides t P → P ⊎ (P → ⊥)
by_test true h = inl (h.0 refl)
by_test false h = inr (λ p. true≢false (sym (h.1 p)))

pub compare : (a b : ℕ) → (a ≡ b) ⊎ ((a ≡ b) → ⊥)
compare a b = by_test (a == b) (Decides-eqb a b)

pub is_in : (xs : List ℕ) (x : ℕ) → Contains xs x ⊎ (Contains xs x → ⊥)
is_in xs x = member compare xs x

-- each number of one list is in the other, or one is not
pub record Missing (xs ys : List ℕ) : Type 0 where
  pub number : ℕ
  pub of : Contains ys number
  pub missing : Contains xs number → ⊥

abbrev pub AreIn : List ℕ → List ℕ → Type 0
AreIn xs ys = (y : ℕ) → Contains ys y → Contains xs y

pub all_in : (xs ys : List ℕ) → AreIn xs ys ⊎ Missing xs ys
all_in xs [] = inl (λ y c. absurd (Contains-nil y c))
all_in xs (y ∷ ys) = elim (is_in xs y) [
  | inr out ↦ inr (record { number = y; of = Contains-head y ys; missing = out })
  | inl there ↦ elim (all_in xs ys) [
    | inl rest ↦ inl (λ z c. elim (Contains-cons_cases y ys z c) [ inl e ↦ subst (λ n. Contains xs n) e there | inr later ↦ rest z later ])
    | inr one ↦ inr (record { number = one.number; of = in_tail y ys one.number one.of; missing = one.missing })
  ]
]

-- how many of a list are missing in another
abbrev weight : {P : Type 0} → P ⊎ (P → ⊥) → ℕ
weight (inl there) = 0
weight (inr out) = 1

abbrev pub lacking : List ℕ → List ℕ → ℕ
lacking xs [] = 0
lacking xs (y ∷ ys) = weight (is_in xs y) + lacking xs ys

lighter : {P Q : Type 0} (p : P ⊎ (P → ⊥)) (q : Q ⊎ (Q → ⊥)) → (P → Q) → weight q ≤ weight p
lighter p (inl there) up = omega arith
lighter (inl there) (inr out) up = absurd (out (up there))
lighter (inr none) (inr out) up = omega arith

is_one : {P : Type 0} (p : P ⊎ (P → ⊥)) → (P → ⊥) → weight p ≡ 1
is_one (inl there) fails = absurd (fails there)
is_one (inr out) fails = refl

is_zero : {P : Type 0} (p : P ⊎ (P → ⊥)) → P → weight p ≡ 0
is_zero (inl there) holds = refl
is_zero (inr out) holds = absurd (out holds)

-- a list that has more lacks fails more
lacks_no_more : (xs more ys : List ℕ) → AreIn more xs → lacking more ys ≤ lacking xs ys
lacks_no_more xs more [] up = omega arith
lacks_no_more xs more (y ∷ ys) up =
    let here : weight (is_in more y) ≤ weight (is_in xs y) = lighter (is_in xs y) (is_in more y) (up y) in
    let rest : lacking more ys ≤ lacking xs ys = lacks_no_more xs more ys up in
    omega (arith, here, rest)

-- and less where it has one of them more
pub lacks_less : (xs more ys : List ℕ) (x : ℕ) → AreIn more xs → Contains more x → Contains ys x → (Contains xs x → ⊥) → lacking more ys < lacking xs ys
lacks_less xs more [] x up has c out = absurd (Contains-nil x c)
lacks_less xs more (y ∷ ys) x up has c out = elim (Contains-cons_cases y ys x c) [
  | inl e ↦ (
      let gone : weight (is_in xs y) ≡ 1 = subst (λ (z : ℕ). weight (is_in xs z) ≡ 1) (sym e) (is_one (is_in xs x) out) in
      let come : weight (is_in more y) ≡ 0 = subst (λ (z : ℕ). weight (is_in more z) ≡ 0) (sym e) (is_zero (is_in more x) has) in
      let rest : lacking more ys ≤ lacking xs ys = lacks_no_more xs more ys up in
      omega (arith, gone, come, rest))
  | inr later ↦ (
      let here : weight (is_in more y) ≤ weight (is_in xs y) = lighter (is_in xs y) (is_in more y) (up y) in
      let rest : lacking more ys < lacking xs ys = lacks_less xs more ys x up has later out in
      omega (arith, here, rest))
]
