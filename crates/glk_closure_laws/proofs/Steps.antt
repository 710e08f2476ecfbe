-- A rule gives exactly what a clause gives.
use Rattle.std.proofs.Common.{◌≡◌, ◌<◌, ℕ, zero, suc, arith, Bool, true, List, [], ◌∷◌, Option, Some, None, inl, inr, refl, subst}
use Rattle.std.specs.Prelude.{IsTrue}
use Rattle.std.specs.List.{Contains}
use Rattle.std.proofs.lemmas.List.Elements.{Contains-append_left, Contains-append_right, Contains-append_cases}
use Rattle.glk_closure.specs.declared.effect.Targets.{Targets}
use Rattle.glk_closure.specs.Graph.{Graph, Effect, Keeps, Links, Funcdata, Uses, Calls, Names, Method}
use Rattle.glk_closure.specs.Reach.{Fact, Kept, Iface, Sig, Named, Reflect, Has, Step, K1, K2, K3, I1, I2, I3, I4, S1, G1, F1, M1}
use Rattle.glk_closure.proofs.Derivations.{Contains-cons_cases, Contains-head, Contains-nil}
use Rattle.glk_closure_laws.proofs.Clauses.{Clause, AreIn}
use Rattle.glk_closure_laws.proofs.GraphClauses.{clause, when, has_when, in_when, both, has_both, in_both, of_each, has_each, in_each, below, has_below, there, has_there, in_there, targets, has_targets, in_targets, wakers, has_wakers, in_wakers, root_clauses, target_clauses, waker_clauses, call_clauses, type_clauses, effect_clauses, flag_clauses, key_clauses, all_clauses}

-- a clause that gives this where its premises are among these facts
pub record Given (cs : List (Clause Fact)) (d : List Fact) (f : Fact) : Type 0 where
  pub rule : Clause Fact
  pub there : Contains cs rule
  pub premises : AreIn d rule.premises
  pub gives : rule.gives ≡ f

-- what a clause gives that is this one
abbrev pub Gives : Graph → List Fact → Clause Fact → Type 0
Gives g d c = AreIn d c.premises → Step g (Contains d) c.gives

same_gives : (g : Graph) (d : List Fact) (c x : Clause Fact) → c ≡ x → Gives g d c → Gives g d x
same_gives g d c x e h = subst (λ y. Gives g d y) e h

module _ (g : Graph) (d : List Fact) where
  -- a clause that is there where a test holds
  by_when : (b : Bool) (c x : Clause Fact) → Contains (when b c) x → (IsTrue b → Gives g d c) → Gives g d x
  by_when b c x h gives = let w = in_when b c x h in same_gives g d c x w.1 (gives w.0)

  sound_target : (k : ℕ) (n : List ℕ) (x : Targets) (f : Fact) (c : Clause Fact) → Has g k (Method (Some n) x) → Contains (wakers n x.first) f
      → Contains (waker_clauses g k x f) c → Gives g d c
  sound_target k n x f c has wakes h =
      let t = in_each (target_clauses g k f) (targets x) c h in
      by_when (g.defined t.0) (clause (Kept k ∷ (Iface k ∷ (f ∷ []))) (Kept t.0)) c t.2
      (λ defined p. M1 k t.0 n x f p.0 p.1.0 has (in_wakers n x f wakes) p.1.1.0 (in_targets x t.0 t.1) defined)

  sound_call : (k : ℕ) (n : Option (List ℕ)) (x : Targets) (c : Clause Fact) → Has g k (Method n x) → Contains (call_clauses g k n x) c → Gives g d c
  sound_call k None x c has h = absurd (Contains-nil c h)
  sound_call k (Some n) x c has h =
      let w = in_each (waker_clauses g k x) (wakers n x.first) c h in
      sound_target k n x w.0 c has w.1 w.2

  sound_effect : (k : ℕ) (e : Effect) (c : Clause Fact) → Has g k e → Contains (effect_clauses g k e) c → Gives g d c
  sound_effect k (Keeps t) c has h = by_when (g.defined t) (clause (Kept k ∷ []) (Kept t)) c h (λ defined p. K2 k t p.0 (inl has) defined)
  sound_effect k (Links t) c has h = elim (Contains-append_cases (when (g.defined t) (clause (Kept k ∷ []) (Kept t))) (type_clauses g k t) c h) [
    | inl kept ↦ by_when (g.defined t) (clause (Kept k ∷ []) (Kept t)) c kept (λ defined p. K2 k t p.0 (inr has) defined)
    | inr iface ↦ by_when (g.defined t) (clause (Kept k ∷ (Iface k ∷ [])) (Iface t)) c iface (λ defined p. I2 k t p.0 p.1.0 has defined)
  ]
  sound_effect k (Funcdata t) c has h = by_when (g.defined t) (clause (Kept k ∷ []) (Kept t)) c h (λ defined p. K3 k t p.0 has defined)
  sound_effect k (Uses t) c has h = by_when (g.defined t) (clause (Kept k ∷ []) (Iface t)) c h (λ defined p. I3 k t p.0 has defined)
  sound_effect k (Calls n t) c has h = by_when (g.defined t) (clause (Kept k ∷ []) (Sig n t)) c h (λ defined p. S1 k t n p.0 has defined)
  sound_effect k (Names n) c has h = by_when true (clause (Kept k ∷ []) (Named n)) c h (λ defined p. G1 k n p.0 has)
  sound_effect k (Method n x) c has h = elim (Contains-append_cases (of_each (type_clauses g k) (there x.first)) (call_clauses g k n x) c h) [
    | inl type_of ↦ (
        let t = in_each (type_clauses g k) (there x.first) c type_of in
        by_when (g.defined t.0) (clause (Kept k ∷ (Iface k ∷ [])) (Iface t.0)) c t.2
        (λ defined p. I4 k t.0 n x p.0 p.1.0 has (in_there x.first t.0 t.1) defined))
    | inr call ↦ sound_call k n x c has call
  ]

  sound_key : (k : ℕ) (c : Clause Fact) → k < g.keys → Contains (key_clauses g k) c → Gives g d c
  sound_key k c below_keys h = elim (Contains-append_cases (flag_clauses g k) (of_each (effect_clauses g k) (g.effects k)) c h) [
    | inl flags ↦ elim (Contains-append_cases (when (both (g.flagged k) (g.defined k)) (clause [] (Iface k))) (when (g.reflects k) (clause (Kept k ∷ []) Reflect)) c flags) [
      | inl iface ↦ by_when (both (g.flagged k) (g.defined k)) (clause [] (Iface k)) c iface
          (λ holds p. let b = in_both (g.flagged k) (g.defined k) holds in I1 k below_keys b.0 b.1)
      | inr reflects ↦ by_when (g.reflects k) (clause (Kept k ∷ []) Reflect) c reflects (λ holds p. F1 k p.0 holds)
    ]
    | inr effects ↦ (let e = in_each (effect_clauses g k) (g.effects k) c effects in sound_effect k e.0 c e.1 e.2)
  ]

  -- each clause is a rule's
  pub sound : (c : Clause Fact) → Contains (all_clauses g) c → Gives g d c
  sound c h = elim (Contains-append_cases (of_each (root_clauses g) g.roots) (of_each (key_clauses g) (below g.keys)) c h) [
    | inl roots ↦ (
        let r = in_each (root_clauses g) g.roots c roots in
        by_when (g.defined r.0) (clause [] (Kept r.0)) c r.2 (λ defined p. K1 r.0 r.1 defined))
    | inr keys ↦ (let k = in_each (key_clauses g) (below g.keys) c keys in sound_key k.0 c (in_below g.keys k.0 k.1) k.2)
  ]
    where
      in_below : (n k : ℕ) → Contains (below n) k → k < n
      in_below zero k h = absurd (Contains-nil k h)
      in_below (suc n) k h = elim (Contains-cons_cases n (below n) k h) [ inl e ↦ omega (arith, e) | inr later ↦ omega (arith, in_below n k later) ]

  -- What a rule gives a clause gives.

  found : (c : Clause Fact) → Contains (all_clauses g) c → AreIn d c.premises → Given (all_clauses g) d c.gives
  found c h p = record { rule = c; there = h; premises = p; gives = refl }

  in_key : (k : ℕ) (c : Clause Fact) → k < g.keys → Contains (key_clauses g k) c → Contains (all_clauses g) c
  in_key k c l h = Contains-append_right (of_each (root_clauses g) g.roots) (of_each (key_clauses g) (below g.keys)) c
      (has_each (key_clauses g) (below g.keys) k c (has_below g.keys k l) h)

  in_effect : (k : ℕ) (e : Effect) (c : Clause Fact) → k < g.keys → Has g k e → Contains (effect_clauses g k e) c → Contains (all_clauses g) c
  in_effect k e c l has h =
      in_key k c l (Contains-append_right (flag_clauses g k) (of_each (effect_clauses g k) (g.effects k)) c (has_each (effect_clauses g k) (g.effects k) e c has h))

  in_flags : (k : ℕ) (c : Clause Fact) → k < g.keys → Contains (flag_clauses g k) c → Contains (all_clauses g) c
  in_flags k c l h = in_key k c l (Contains-append_left (flag_clauses g k) (of_each (effect_clauses g k) (g.effects k)) c h)

  -- the symbols of kept facts are keys
  module _ (inside : (k : ℕ) → Contains d (Kept k) → k < g.keys) where
    pub complete : (f : Fact) → Step g (Contains d) f → Given (all_clauses g) d f
    complete f (K1 r h defined) =
        let c = clause [] (Kept r) in
        found c (Contains-append_left (of_each (root_clauses g) g.roots) (of_each (key_clauses g) (below g.keys)) c
        (has_each (root_clauses g) g.roots r c h (has_when (g.defined r) c defined))) tt
    complete f (K2 k t h (inl has) defined) =
        let c = clause (Kept k ∷ []) (Kept t) in
        found c (in_effect k (Keeps t) c (inside k h) has (has_when (g.defined t) c defined)) (h, tt)
    complete f (K2 k t h (inr has) defined) =
        let c = clause (Kept k ∷ []) (Kept t) in
        found c (in_effect k (Links t) c (inside k h) has (Contains-append_left (when (g.defined t) c) (type_clauses g k t) c (has_when (g.defined t) c defined))) (h, tt)
    complete f (K3 k t h has defined) =
        let c = clause (Kept k ∷ []) (Kept t) in
        found c (in_effect k (Funcdata t) c (inside k h) has (has_when (g.defined t) c defined)) (h, tt)
    complete f (I1 k l flagged defined) =
        let c = clause [] (Iface k) in
        let b = both (g.flagged k) (g.defined k) in
        found c (in_flags k c l (Contains-append_left (when b c) (when (g.reflects k) (clause (Kept k ∷ []) Reflect)) c
        (has_when b c (has_both (g.flagged k) (g.defined k) flagged defined)))) tt
    complete f (I2 k t h i has defined) =
        let c = clause (Kept k ∷ (Iface k ∷ [])) (Iface t) in
        found c (in_effect k (Links t) c (inside k h) has (Contains-append_right (when (g.defined t) (clause (Kept k ∷ []) (Kept t))) (type_clauses g k t) c (has_when (g.defined t) c defined))) (h, (i, tt))
    complete f (I3 k t h has defined) =
        let c = clause (Kept k ∷ []) (Iface t) in
        found c (in_effect k (Uses t) c (inside k h) has (has_when (g.defined t) c defined)) (h, tt)
    complete f (I4 k t n x h i has is defined) =
        let c = clause (Kept k ∷ (Iface k ∷ [])) (Iface t) in
        found c (in_effect k (Method n x) c (inside k h) has (Contains-append_left (of_each (type_clauses g k) (there x.first)) (call_clauses g k n x) c
        (has_each (type_clauses g k) (there x.first) t c (has_there x.first t is) (has_when (g.defined t) c defined)))) (h, (i, tt))
    complete f (S1 k t n h has defined) =
        let c = clause (Kept k ∷ []) (Sig n t) in
        found c (in_effect k (Calls n t) c (inside k h) has (has_when (g.defined t) c defined)) (h, tt)
    complete f (G1 k n h has) =
        let c = clause (Kept k ∷ []) (Named n) in
        found c (in_effect k (Names n) c (inside k h) has (Contains-head c [])) (h, tt)
    complete f (F1 k h reflects) =
        let c = clause (Kept k ∷ []) Reflect in
        found c (in_flags k c (inside k h) (Contains-append_right (when (both (g.flagged k) (g.defined k)) (clause [] (Iface k))) (when (g.reflects k) c) c
        (has_when (g.reflects k) c reflects))) (h, tt)
    complete f (M1 k t n x w h i has wakes holds one defined) =
        let c = clause (Kept k ∷ (Iface k ∷ (w ∷ []))) (Kept t) in
        found c (in_effect k (Method (Some n) x) c (inside k h) has
        (Contains-append_right (of_each (type_clauses g k) (there x.first)) (call_clauses g k (Some n) x) c
        (has_each (waker_clauses g k x) (wakers n x.first) w c (has_wakers n x w wakes)
        (has_each (target_clauses g k w) (targets x) t c (has_targets x t one) (has_when (g.defined t) c defined))))) (h, (i, (holds, tt)))
