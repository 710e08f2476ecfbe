-- The rules of a program as clauses: one for each rule, symbol and effect.
use Rattle.std.proofs.Common.{◌≡◌, ◌<◌, ℕ, zero, suc, Bool, true, false, List, [], ◌∷◌, ◌++◌, Option, Some, None, ◌⊎◌, inl, inr, refl, sym, ap, subst, arith, true≢false}
use Rattle.std.specs.Prelude.{IsTrue}
use Rattle.std.specs.List.{Contains}
use Rattle.std.proofs.lemmas.List.Elements.{Contains-append_left, Contains-append_right, Contains-append_cases}
use Rattle.glk_closure.specs.declared.effect.Targets.{Targets}
use Rattle.glk_closure.specs.Graph.{Graph, Effect, Keeps, Links, Funcdata, Uses, Calls, Names, Method}
use Rattle.glk_closure.specs.Reach.{Fact, Kept, Iface, Sig, Named, Reflect, Wakes, by_sig, by_name, by_reflection, is_exported}
use Rattle.glk_closure.specs.Views.{OneOf}
use Rattle.glk_closure.proofs.Derivations.{Contains-cons_cases, Contains-head, Contains-nil}
use Rattle.glk_closure_laws.proofs.Clauses.{Clause, in_tail}

abbrev pub clause : List Fact → Fact → Clause Fact
clause premises gives = record { premises = premises; gives = gives }

-- a clause that is there where a test holds
abbrev pub when : Bool → Clause Fact → List (Clause Fact)
when true c = c ∷ []
when false c = []

pub has_when : (b : Bool) (c : Clause Fact) → IsTrue b → Contains (when b c) c
has_when true c h = Contains-head c []
has_when false c h = absurd (true≢false (sym h))

pub in_when : (b : Bool) (c x : Clause Fact) → Contains (when b c) x → IsTrue b × (c ≡ x)
in_when true c x h = elim (Contains-cons_cases c [] x h) [ inl e ↦ (refl, e) | inr none ↦ absurd (Contains-nil x none) ]
in_when false c x h = absurd (Contains-nil x h)

abbrev pub both : Bool → Bool → Bool
both true b = b
both false b = false

pub has_both : (a b : Bool) → IsTrue a → IsTrue b → IsTrue (both a b)
has_both true b h k = k
has_both false b h k = absurd (true≢false (sym h))

pub in_both : (a b : Bool) → IsTrue (both a b) → IsTrue a × IsTrue b
in_both true b h = (refl, h)
in_both false b h = absurd (true≢false (sym h))

-- clauses of each of a list
abbrev pub of_each : {X : Type 0} → (X → List (Clause Fact)) → List X → List (Clause Fact)
of_each f [] = []
of_each f (x ∷ xs) = f x ++ of_each f xs

pub has_each : {X : Type 0} (f : X → List (Clause Fact)) (xs : List X) (x : X) (c : Clause Fact) → Contains xs x → Contains (f x) c → Contains (of_each f xs) c
has_each f [] x c h k = absurd (Contains-nil x h)
has_each f (y ∷ ys) x c h k = elim (Contains-cons_cases y ys x h) [
  | inl e ↦ Contains-append_left (f y) (of_each f ys) c (subst (λ z. Contains (f z) c) (sym e) k)
  | inr later ↦ Contains-append_right (f y) (of_each f ys) c (has_each f ys x c later k)
]

pub in_each : {X : Type 0} (f : X → List (Clause Fact)) (xs : List X) (c : Clause Fact) → Contains (of_each f xs) c → (x : X) × Contains xs x × Contains (f x) c
in_each f [] c h = absurd (Contains-nil c h)
in_each f (y ∷ ys) c h = elim (Contains-append_cases (f y) (of_each f ys) c h) [
  | inl here ↦ (y, Contains-head y ys, here)
  | inr later ↦ (let r = in_each f ys c later in (r.0, in_tail y ys r.0 r.1, r.2))
]

-- the numbers below n
abbrev pub below : ℕ → List ℕ
below zero = []
below (suc n) = n ∷ below n

pub has_below : (n k : ℕ) → k < n → Contains (below n) k
has_below zero k l = absurd (omega (arith, l))
has_below (suc n) k l = elim (eq_or_less k n l) [
  | inl e ↦ subst (λ j. Contains (n ∷ below n) j) (sym e) (Contains-head n (below n))
  | inr less ↦ in_tail n (below n) k (has_below n k less)
]
  where
    eq_or_less : (k n : ℕ) → k < suc n → (k ≡ n) ⊎ (k < n)
    eq_or_less zero zero l = inl refl
    eq_or_less zero (suc n) l = inr (omega arith)
    eq_or_less (suc k) zero l = absurd (omega (arith, l))
    eq_or_less (suc k) (suc n) l = elim (eq_or_less k n (omega (arith, l))) [ inl e ↦ inl (ap (λ j. suc j) e) | inr less ↦ inr (omega (arith, less)) ]

-- The targets of a method that are there.

abbrev pub there : Option ℕ → List ℕ
there None = []
there (Some t) = t ∷ []

pub has_there : (o : Option ℕ) (t : ℕ) → o ≡ Some t → Contains (there o) t
has_there o t e = subst (λ p. Contains (there p) t) (sym e) (Contains-head t [])

pub in_there : (o : Option ℕ) (t : ℕ) → Contains (there o) t → o ≡ Some t
in_there None t h = absurd (Contains-nil t h)
in_there (Some u) t h = elim (Contains-cons_cases u [] t h) [ inl e ↦ ap (λ (n : ℕ). Some n) e | inr none ↦ absurd (Contains-nil t none) ]

abbrev pub targets : Targets → List ℕ
targets x = there x.first ++ (there x.second ++ there x.third)

pub has_targets : (x : Targets) (t : ℕ) → OneOf t x → Contains (targets x) t
has_targets x t (inl e) = Contains-append_left (there x.first) (there x.second ++ there x.third) t (has_there x.first t e)
has_targets x t (inr (inl e)) =
    Contains-append_right (there x.first) (there x.second ++ there x.third) t (Contains-append_left (there x.second) (there x.third) t (has_there x.second t e))
has_targets x t (inr (inr e)) =
    Contains-append_right (there x.first) (there x.second ++ there x.third) t (Contains-append_right (there x.second) (there x.third) t (has_there x.third t e))

pub in_targets : (x : Targets) (t : ℕ) → Contains (targets x) t → OneOf t x
in_targets x t h = elim (Contains-append_cases (there x.first) (there x.second ++ there x.third) t h) [
  | inl first ↦ inl (in_there x.first t first)
  | inr other ↦ elim (Contains-append_cases (there x.second) (there x.third) t other) [
    | inl second ↦ inr (inl (in_there x.second t second))
    | inr third ↦ inr (inr (in_there x.third t third))
  ]
]

-- The facts that call a method.

abbrev pub if_exported : Bool → List Fact
if_exported true = Reflect ∷ []
if_exported false = []

abbrev pub wakers : List ℕ → Option ℕ → List Fact
wakers n None = Named n ∷ if_exported (is_exported n)
wakers n (Some a) = Sig n a ∷ (Named n ∷ if_exported (is_exported n))

has_exported : (b : Bool) → IsTrue b → Contains (if_exported b) Reflect
has_exported true h = Contains-head Reflect []
has_exported false h = absurd (true≢false (sym h))

in_exported : (b : Bool) (f : Fact) → Contains (if_exported b) f → (Reflect ≡ f) × IsTrue b
in_exported true f h = elim (Contains-cons_cases Reflect [] f h) [ inl e ↦ (e, refl) | inr none ↦ absurd (Contains-nil f none) ]
in_exported false f h = absurd (Contains-nil f h)

has_name : (n : List ℕ) (o : Option ℕ) (f : Fact) → Contains (Named n ∷ if_exported (is_exported n)) f → Contains (wakers n o) f
has_name n None f h = h
has_name n (Some a) f h = in_tail (Sig n a) (Named n ∷ if_exported (is_exported n)) f h

pub has_wakers : (n : List ℕ) (x : Targets) (f : Fact) → Wakes n x f → Contains (wakers n x.first) f
has_wakers n x f (by_sig a e) = subst (λ o. Contains (wakers n o) (Sig n a)) (sym e) (Contains-head (Sig n a) (Named n ∷ if_exported (is_exported n)))
has_wakers n x f by_name = has_name n x.first (Named n) (Contains-head (Named n) (if_exported (is_exported n)))
has_wakers n x f (by_reflection h) = has_name n x.first Reflect (in_tail (Named n) (if_exported (is_exported n)) Reflect (has_exported (is_exported n) h))

in_names : (n : List ℕ) (x : Targets) (f : Fact) → Contains (Named n ∷ if_exported (is_exported n)) f → Wakes n x f
in_names n x f h = elim (Contains-cons_cases (Named n) (if_exported (is_exported n)) f h) [
  | inl e ↦ subst (λ g. Wakes n x g) e by_name
  | inr later ↦ (let r = in_exported (is_exported n) f later in subst (λ g. Wakes n x g) r.0 (by_reflection r.1))
]

in_wakers_of : (n : List ℕ) (x : Targets) (o : Option ℕ) (f : Fact) → x.first ≡ o → Contains (wakers n o) f → Wakes n x f
in_wakers_of n x None f e h = in_names n x f h
in_wakers_of n x (Some a) f e h = elim (Contains-cons_cases (Sig n a) (Named n ∷ if_exported (is_exported n)) f h) [
  | inl is ↦ subst (λ g. Wakes n x g) is (by_sig a e)
  | inr later ↦ in_names n x f later
]

pub in_wakers : (n : List ℕ) (x : Targets) (f : Fact) → Contains (wakers n x.first) f → Wakes n x f
in_wakers n x f h = in_wakers_of n x x.first f refl h

-- The clauses.

module _ (g : Graph) where
  abbrev pub root_clauses : ℕ → List (Clause Fact)
  root_clauses r = when (g.defined r) (clause [] (Kept r))

  -- M1: a fact that calls the method keeps this target
  abbrev pub target_clauses : ℕ → Fact → ℕ → List (Clause Fact)
  target_clauses k f t = when (g.defined t) (clause (Kept k ∷ (Iface k ∷ (f ∷ []))) (Kept t))

  abbrev pub waker_clauses : ℕ → Targets → Fact → List (Clause Fact)
  waker_clauses k x f = of_each (target_clauses k f) (targets x)

  abbrev pub call_clauses : ℕ → Option (List ℕ) → Targets → List (Clause Fact)
  call_clauses k None x = []
  call_clauses k (Some n) x = of_each (waker_clauses k x) (wakers n x.first)

  -- I4
  abbrev pub type_clauses : ℕ → ℕ → List (Clause Fact)
  type_clauses k t = when (g.defined t) (clause (Kept k ∷ (Iface k ∷ [])) (Iface t))

  abbrev pub effect_clauses : ℕ → Effect → List (Clause Fact)
  effect_clauses k (Keeps t) = when (g.defined t) (clause (Kept k ∷ []) (Kept t))
  effect_clauses k (Links t) = when (g.defined t) (clause (Kept k ∷ []) (Kept t)) ++ type_clauses k t
  effect_clauses k (Funcdata t) = when (g.defined t) (clause (Kept k ∷ []) (Kept t))
  effect_clauses k (Uses t) = when (g.defined t) (clause (Kept k ∷ []) (Iface t))
  effect_clauses k (Calls n t) = when (g.defined t) (clause (Kept k ∷ []) (Sig n t))
  effect_clauses k (Names n) = clause (Kept k ∷ []) (Named n) ∷ []
  effect_clauses k (Method n x) = of_each (type_clauses k) (there x.first) ++ call_clauses k n x

  abbrev pub flag_clauses : ℕ → List (Clause Fact)
  flag_clauses k = when (both (g.flagged k) (g.defined k)) (clause [] (Iface k)) ++ when (g.reflects k) (clause (Kept k ∷ []) Reflect)

  abbrev pub key_clauses : ℕ → List (Clause Fact)
  key_clauses k = flag_clauses k ++ of_each (effect_clauses k) (g.effects k)

  abbrev pub all_clauses : List (Clause Fact)
  all_clauses = of_each root_clauses g.roots ++ of_each key_clauses (below g.keys)
