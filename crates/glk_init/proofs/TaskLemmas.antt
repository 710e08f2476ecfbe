-- What is reached from a root along references is what is kept by the rules of reachability.
use Rattle.std.proofs.Common.{◌≡◌, ◌<◌, ◌↔◌, ℕ, zero, suc, List, [], ◌∷◌, map, length, get_or, Option, Some, None, refl, sym, subst, ◌∙◌, inl, inr, arith}
use Rattle.std.specs.Prelude.{IsTrue, OnOk, Result, Ok, Err}
use Rattle.std.specs.List.{All, Contains, cons_option, filter_map}
use Rattle.std.proofs.lemmas.List.{length-map, get_or-map}
use Rattle.std.proofs.lemmas.List.Elements.{All-cons, All-head, All-map, All-tail, Contains-get_or, at_from_Contains, Contains-from_at}
use Rattle.glk_closure.specs.Graph.{Effect, Keeps, Links, Funcdata, Uses, Calls, Names, Method}
use Rattle.glk_closure.specs.Reach.{Fact, Kept, Iface, Sig, Named, Reflect, Step, K1, K2, K3, M1, IsDerivation, Reach, Refers}
use Rattle.glk_closure.specs.Views.{IsWithin as IsEffectWithin}
use Rattle.glk_closure.proofs.Derivations.{Contains-cons_cases, Contains-nil, Reach-step, Step-weaker}
use Rattle.glk_init.specs.declared.program.InitEdge.{InitEdge}
use Rattle.glk_init.specs.Graph.{InitGraph, IsKeyWithin, IsWithin}
use Rattle.glk_init.specs.Tasks.{Awaits, awaited, IsReachedBy, IsTask}
use Rattle.glk_init.specs.Reached.{awaited_graph}

-- the effect keeps this target
abbrev pub IsKeeping : ℕ → Effect → Type 0
IsKeeping t (Keeps u) = u ≡ t
IsKeeping t (Links u) = ⊥
IsKeeping t (Funcdata u) = ⊥
IsKeeping t (Uses u) = ⊥
IsKeeping t (Calls n u) = ⊥
IsKeeping t (Names n) = ⊥
IsKeeping t (Method n x) = ⊥

-- an effect by what is awaited keeps a target that is
pub kept_target : (xs : List ℕ) (e : Effect) → Contains (map Keeps xs) e → (t : ℕ) × Contains xs t × IsKeeping t e
kept_target xs e c =
    let at = at_from_Contains (map Keeps xs) e c in
    let inside : at.0 < length xs = subst (λ (n : ℕ). at.0 < n) (length-map xs Keeps) at.1 in
    let t : ℕ = get_or xs at.0 0 in
    let is : Keeps t ≡ e = sym (get_or-map Keeps xs at.0 0 (Keeps 0) inside) ∙ at.2 (Keeps 0) in
    (t, Contains-get_or xs at.0 0 inside, subst (IsKeeping t) is refl)

pub keeps_awaited : (xs : List ℕ) (t : ℕ) → Contains xs t → Contains (map Keeps xs) (Keeps t)
keeps_awaited xs t c =
    let at = at_from_Contains xs t c in
    let inside : at.0 < length (map Keeps xs) = subst (λ (n : ℕ). at.0 < n) (sym (length-map xs Keeps)) at.1 in
    Contains-from_at (map Keeps xs) (Keeps t)
    (at.0, inside, λ d. get_or-map Keeps xs at.0 0 d at.1 ∙ subst (λ (n : ℕ). Keeps (get_or xs at.0 0) ≡ Keeps n) (at.2 0) refl)

-- what is claimed of a fact: that a kept symbol is a task
abbrev IsTaskFact : InitGraph → ℕ → Fact → Type 0
IsTaskFact g root (Kept k) = IsTask g root k
IsTaskFact g root (Iface k) = Unit {0}
IsTaskFact g root (Sig n k) = Unit {0}
IsTaskFact g root (Named n) = Unit {0}
IsTaskFact g root Reflect = Unit {0}

-- a task, and one that it awaits
further : (g : InitGraph) (root k t : ℕ) → IsTask g root k → Awaits g k t → IsTrue (g.defined t) → IsTask g root t
further g root k t h a d = (suc h.0, (k, h.1, a, d))

root_task : (g : InitGraph) (root r : ℕ) → Contains (root ∷ []) r → IsTrue (g.defined r) → IsTask g root r
root_task g root r c d =
    elim (Contains-cons_cases root [] r c) [
      | inl e ↦ (zero, (sym e, d))
      | inr b ↦ absurd (Contains-nil r b)
    ]

refers_task : (g : InitGraph) (root k t : ℕ) → IsTask g root k → Refers (awaited_graph g (root ∷ [])) k t → IsTrue (g.defined t) → IsTask g root t
refers_task g root k t h (inl c) d =
    let x = kept_target (awaited g k) (Keeps t) c in
    further g root k t h (subst (Contains (awaited g k)) (sym x.2) x.1) d
refers_task g root k t h (inr c) d = absurd (kept_target (awaited g k) (Links t) c).2

-- each rule keeps this true
rule_task : (g : InitGraph) (root : ℕ) (f : Fact) → Step (awaited_graph g (root ∷ [])) (IsTaskFact g root) f → IsTaskFact g root f
rule_task g root (Kept t) (K1 r c d) = root_task g root r c d
rule_task g root (Kept t) (K2 k u h a d) = refers_task g root k u h a d
rule_task g root (Kept t) (K3 k u h a d) = absurd (kept_target (awaited g k) (Funcdata u) a).2
rule_task g root (Kept t) (M1 k u n x f h j a wakes v o d) = absurd (kept_target (awaited g k) (Method (Some n) x) a).2
rule_task g root (Iface k) s = tt
rule_task g root (Sig n k) s = tt
rule_task g root (Named n) s = tt
rule_task g root Reflect s = tt

derived_task : (g : InitGraph) (root : ℕ) (d : List Fact) → IsDerivation (awaited_graph g (root ∷ [])) d → (f : Fact) → Contains d f → IsTaskFact g root f
derived_task g root [] s f c = absurd (Contains-nil f c)
derived_task g root (e ∷ d) s f c =
    elim (Contains-cons_cases e d f c) [
      | inl same ↦ subst (IsTaskFact g root) same (rule_task g root e (Step-weaker (derived_task g root d s.1) s.0))
      | inr b ↦ derived_task g root d s.1 f b
    ]

reached_kept : (g : InitGraph) (root n k : ℕ) → IsReachedBy g root n k → Reach (awaited_graph g (root ∷ [])) (Kept k)
reached_kept g root zero k h = Reach-step (K1 k (0, omega arith, sym h.0) h.1)
reached_kept g root (suc n) k h =
    Reach-step (K2 h.0 k (reached_kept g root n h.0 h.1) (inl (keeps_awaited (awaited g h.0) k h.2)) h.3)

-- the kept symbols are the tasks
pub kept_are_tasks : (g : InitGraph) (root k : ℕ) → Reach (awaited_graph g (root ∷ [])) (Kept k) ↔ IsTask g root k
kept_are_tasks g root k =
    (λ r. derived_task g root r.0 r.1 (Kept k) r.2, λ t. reached_kept g root t.0 k t.1)

-- each task is a key
pub task_is_defined : (g : InitGraph) (root n k : ℕ) → IsReachedBy g root n k → IsTrue (g.defined k)
task_is_defined g root zero k h = h.1
task_is_defined g root (suc n) k h = h.3

-- what is awaited is a key, where the targets of all edges are
option_within : (n : ℕ) (o : Option ℕ) (rest : List ℕ) → IsKeyWithin n o → All (λ t. t < n) rest → All (λ t. t < n) (cons_option o rest)
option_within n None rest h r = r
option_within n (Some t) rest h r = All-cons (λ u. u < n) t rest h r

pub targets_within : (n : ℕ) (edges : List InitEdge) → All (IsWithin n) edges → All (λ t. t < n) (filter_map (λ e. e.target) edges)
targets_within n [] h = λ k d l. omega (arith, l)
targets_within n (e ∷ edges) h =
    option_within n e.target (filter_map (λ x. x.target) edges) (All-head (IsWithin n) e edges h) (targets_within n edges (All-tail (IsWithin n) e edges h))

pub awaited_within : (g : InitGraph) (k : ℕ) → All (IsWithin g.keys) (g.edges k) → All (IsEffectWithin g.keys) (map Keeps (awaited g k))
awaited_within g k h = All-map (IsEffectWithin g.keys) Keeps (awaited g k) (targets_within g.keys (g.edges k) h)

-- what holds anyway holds where a call is Ok
pub on_ok : {T E P : Type 0} (r : Result T E) → P → OnOk r P
on_ok (Ok x) p = p
on_ok (Err e) p = tt
