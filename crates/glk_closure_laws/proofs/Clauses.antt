-- Finitely many clauses, each of which gives a fact where its premises hold: what they give can be listed.
use Rattle.std.proofs.Common.{◌≡◌, ◌<◌, ◌≤◌, ◌+◌, ℕ, zero, suc, List, [], ◌∷◌, ◌⊎◌, inl, inr, refl, sym, subst, arith}
use Rattle.std.specs.List.{Contains}
use Rattle.glk_closure.proofs.Derivations.{Contains-cons_cases, Contains-head, Contains-nil}

pub record Clause (A : Type 0) : Type 0 where
  pub premises : List A
  pub gives : A

pub in_tail : {X : Type 0} (x : X) (xs : List X) (y : X) → Contains xs y → Contains (x ∷ xs) y
in_tail x xs y c = (suc c.0, omega (arith, c.1), c.2)

-- all of a list are in another
abbrev pub AreIn : {A : Type 0} → List A → List A → Type 0
AreIn d [] = Unit {0}
AreIn d (p ∷ ps) = Contains d p × AreIn d ps

module _ {A : Type 0} (compare : (a b : A) → (a ≡ b) ⊎ ((a ≡ b) → ⊥)) where
  pub member : (d : List A) (a : A) → Contains d a ⊎ (Contains d a → ⊥)
  member [] a = inr (λ c. Contains-nil a c)
  member (x ∷ xs) a = elim (compare x a) [
    | inl same ↦ inl (subst (λ y. Contains (x ∷ xs) y) same (Contains-head x xs))
    | inr other ↦ elim (member xs a) [
      | inl later ↦ inl (in_tail x xs a later)
      | inr never ↦ inr (λ c. elim (Contains-cons_cases x xs a c) [ inl e ↦ other e | inr l ↦ never l ])
    ]
  ]

  all_in : (d ps : List A) → AreIn d ps ⊎ (AreIn d ps → ⊥)
  all_in d [] = inl tt
  all_in d (p ∷ ps) = elim (member d p) [
    | inr fails ↦ inr (λ h. fails h.0)
    | inl holds ↦ elim (all_in d ps) [ inl rest ↦ inl (holds, rest) | inr fails ↦ inr (λ h. fails h.1) ]
  ]

  -- the clause gives what is not there yet
  abbrev Fires : List A → Clause A → Type 0
  Fires d c = AreIn d c.premises × (Contains d c.gives → ⊥)

  -- what it gives is there where its premises are
  abbrev pub Keeps : List A → Clause A → Type 0
  Keeps d c = AreIn d c.premises → Contains d c.gives

  fires : (d : List A) (c : Clause A) → Fires d c ⊎ Keeps d c
  fires d c = elim (member d c.gives) [
    | inl there ↦ inr (λ h. there)
    | inr missing ↦ elim (all_in d c.premises) [ inl all ↦ inl (all, missing) | inr fails ↦ inr (λ h. absurd (fails h)) ]
  ]

  -- one of the clauses that fires, or none does
  pick : (d : List A) (cs : List (Clause A)) → ((c : Clause A) × Contains cs c × Fires d c) ⊎ ((c : Clause A) → Contains cs c → Keeps d c)
  pick d [] = inr (λ c h. absurd (Contains-nil c h))
  pick d (c ∷ cs) = elim (fires d c) [
    | inl here ↦ inl (c, Contains-head c cs, here)
    | inr keeps ↦ elim (pick d cs) [
      | inl later ↦ inl (later.0, in_tail c cs later.0 later.1, later.2)
      | inr rest ↦ inr (λ x h. elim (Contains-cons_cases c cs x h) [ inl e ↦ subst (λ y. Keeps d y) e keeps | inr l ↦ rest x l ])
    ]
  ]

  -- how many clauses give what is not there
  abbrev weight : {P : Type 0} → P ⊎ (P → ⊥) → ℕ
  weight (inl there) = 0
  weight (inr missing) = 1

  abbrev count : List A → List (Clause A) → ℕ
  count d [] = 0
  count d (c ∷ cs) = weight (member d c.gives) + count d cs

  lighter : {P Q : Type 0} (p : P ⊎ (P → ⊥)) (q : Q ⊎ (Q → ⊥)) → (P → Q) → weight q ≤ weight p
  lighter p (inl there) up = omega arith
  lighter (inl there) (inr missing) up = absurd (missing (up there))
  lighter (inr none) (inr missing) up = omega arith

  none_there : {P : Type 0} (p : P ⊎ (P → ⊥)) → (P → ⊥) → weight p ≡ 1
  none_there (inl there) fails = absurd (fails there)
  none_there (inr missing) fails = refl

  all_there : {P : Type 0} (p : P ⊎ (P → ⊥)) → P → weight p ≡ 0
  all_there (inl there) holds = refl
  all_there (inr missing) holds = absurd (missing holds)

  fewer : (d : List A) (x : A) (cs : List (Clause A)) → count (x ∷ d) cs ≤ count d cs
  fewer d x [] = omega arith
  fewer d x (c ∷ cs) =
      let here : weight (member (x ∷ d) c.gives) ≤ weight (member d c.gives) = lighter (member d c.gives) (member (x ∷ d) c.gives) (in_tail x d c.gives) in
      let rest : count (x ∷ d) cs ≤ count d cs = fewer d x cs in
      omega (arith, here, rest)

  less : (d : List A) (cs : List (Clause A)) (c : Clause A) → Contains cs c → (Contains d c.gives → ⊥) → count (c.gives ∷ d) cs < count d cs
  less d [] c h missing = absurd (Contains-nil c h)
  less d (b ∷ cs) c h missing = elim (Contains-cons_cases b cs c h) [
    | inl e ↦ (
        let gone : weight (member d b.gives) ≡ 1 = subst (λ (y : Clause A). weight (member d y.gives) ≡ 1) (sym e) (none_there (member d c.gives) missing) in
        let come : weight (member (c.gives ∷ d) b.gives) ≡ 0 = subst (λ (y : Clause A). weight (member (c.gives ∷ d) y.gives) ≡ 0) (sym e) (all_there (member (c.gives ∷ d) c.gives) (Contains-head c.gives d)) in
        let rest : count (c.gives ∷ d) cs ≤ count d cs = fewer d c.gives cs in
        omega (arith, gone, come, rest))
    | inr later ↦ (
        let here : weight (member (c.gives ∷ d) b.gives) ≤ weight (member d b.gives) = lighter (member d b.gives) (member (c.gives ∷ d) b.gives) (in_tail c.gives d b.gives) in
        let rest : count (c.gives ∷ d) cs < count d cs = less d cs c later missing in
        omega (arith, here, rest))
  ]

  -- a list that no clause adds to, and of which this holds
  pub record Closed (P : List A → Type 0) (cs : List (Clause A)) : Type 0 where
    pub list : List A
    pub holds : P list
    pub closed : (c : Clause A) → Contains cs c → Keeps list c

  pub close : (P : List A → Type 0) (cs : List (Clause A))
      → ((d : List A) (c : Clause A) → P d → Contains cs c → AreIn d c.premises → P (c.gives ∷ d))
      → (n : ℕ) (d : List A) → count d cs ≤ n → P d → Closed P cs
  close P cs more zero d low h = elim (pick d cs) [
    | inl one ↦ absurd (omega (arith, low, less d cs one.0 one.1 one.2.1))
    | inr done ↦ record { list = d; holds = h; closed = done }
  ]
  close P cs more (suc n) d low h = elim (pick d cs) [
    | inl one ↦ (
        let below : count (one.0.gives ∷ d) cs < count d cs = less d cs one.0 one.1 one.2.1 in
        close P cs more n (one.0.gives ∷ d) (omega (arith, low, below)) (more d one.0 h one.1 one.2.0))
    | inr done ↦ record { list = d; holds = h; closed = done }
  ]

  -- what the clauses give, from nothing on
  pub close_all : (P : List A → Type 0) (cs : List (Clause A))
      → ((d : List A) (c : Clause A) → P d → Contains cs c → AreIn d c.premises → P (c.gives ∷ d))
      → P [] → Closed P cs
  close_all P cs more h = close P cs more (count [] cs) [] (omega arith) h
