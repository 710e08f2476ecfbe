-- Edges by their numbers, and the chain of the edges that have a task at one end.
use Rattle.std.proofs.Common.{◌≡◌, ◌+◌, ◌<◌, ◌≤◌, ◌∙◌, inl, inr, ℕ, zero, suc, true, false, cond, List, length, refl, ap, sym, subst, arith, eqb, Option, Some, None}
use Rattle.std.proofs.lemmas.Bool.{eqb-true, eq-eqb, both_ways, cases_order}
use Rattle.std.proofs.lemmas.List.{get_or_default}
use Rattle.std.proofs.lemmas.List.Elements.{Contains-get_or}
use Rattle.glk_order.specs.declared.edges.Edge.{Edge}
use Rattle.glk_order.specs.declared.edges.End.{End}
use Rattle.glk_order.specs.declared.edges.End.TheVariants as ends
use Rattle.glk_order.specs.Order.{Needs}
use Rattle.glk_order.specs.Chains.{no_edge, edge_at, task_at, last_edge}

-- an edge leads from its task to its target
pub edge_needs : (edges : List Edge) (n : ℕ) → n < length edges → Needs edges (edge_at edges n).task (edge_at edges n).target
edge_needs edges n inside = Contains-get_or edges n no_edge inside

-- the same where the two are known by other names
pub needs_by : (edges : List Edge) (n task target : ℕ) → n < length edges → (edge_at edges n).task ≡ task → (edge_at edges n).target ≡ target → Needs edges task target
needs_by edges n task target inside from to =
    let first : Needs edges task (edge_at edges n).target = subst (λ t. Needs edges t (edge_at edges n).target) from (edge_needs edges n inside) in
    subst (Needs edges task) to first

-- the edge by which one task needs another
pub record IsEdge (edges : List Edge) (task target n : ℕ) : Type 0 where
  pub inside : n < length edges
  pub task_is : (edge_at edges n).task ≡ task
  pub target_is : (edge_at edges n).target ≡ target

pub needs_edge : (edges : List Edge) (task target : ℕ) → Needs edges task target → (n : ℕ) × IsEdge edges task target n
needs_edge edges task target need =
    let e : Edge = record { task = task; target = target } in
    let is : edge_at edges need.0 ≡ e = get_or_default edges need.0 no_edge e need.1 ∙ need.2 in
    (need.0, record { inside = need.1; task_is = ap (λ (x : Edge). x.task) is; target_is = ap (λ (x : Edge). x.target) is })

-- what is found is an edge of the task
pub last_found : (end : End) (edges : List Edge) (task n e : ℕ) → last_edge end edges task n ≡ Some e → (e < n) × (task_at end (edge_at edges e) ≡ task)
last_found end edges task zero e is = cc
last_found end edges task (suc n) e is = elim (eqb (task_at end (edge_at edges n)) task) as (λ b. eqb (task_at end (edge_at edges n)) task ≡ b → cond b (Some n) (last_edge end edges task n) ≡ Some e → (e < suc n) × (task_at end (edge_at edges e) ≡ task)) [
  | true ↦ λ here found.
      let same : n ≡ e = cc in
      (omega (arith, same), subst (λ (k : ℕ). task_at end (edge_at edges k) ≡ task) same (eqb-true _ _ here))
  | false ↦ λ other found. let more : (e < n) × (task_at end (edge_at edges e) ≡ task) = last_found end edges task n e found in (omega (arith, more.0), more.1)
] refl is

-- the number past an edge that may be absent
abbrev pub bound_of : Option ℕ → ℕ
bound_of None = 0
bound_of (Some e) = e + 1

-- behind it no edge has the task
pub none_behind : (end : End) (edges : List Edge) (task n e : ℕ) → bound_of (last_edge end edges task n) ≤ e → e < n → task_at end (edge_at edges e) ≡ task → ⊥
none_behind end edges task zero e low high is = absurd (omega arith)
none_behind end edges task (suc n) e low high is = elim (eqb (task_at end (edge_at edges n)) task) as (λ b. eqb (task_at end (edge_at edges n)) task ≡ b → bound_of (cond b (Some n) (last_edge end edges task n)) ≤ e → ⊥) [
  | true ↦ λ here past. absurd (omega arith)
  | false ↦ λ other past. elim (cases_order e n) [
    | inl same ↦ both_ways (eqb (task_at end (edge_at edges n)) task) other (eq-eqb _ _ (subst (λ (k : ℕ). task_at end (edge_at edges k) ≡ task) same is))
    | inr (inl less) ↦ none_behind end edges task n e past less is
    | inr (inr more) ↦ absurd (omega arith)
  ]
] refl low

-- This edge, if there is one, is the last before a bound that has the task.
pub record IsOnChain (end : End) (edges : List Edge) (task : ℕ) (at : Option ℕ) : Type 0 where
  pub bound : ℕ
  pub inside : bound ≤ length edges
  pub is : at ≡ last_edge end edges task bound

-- what holds of each edge of the task from this one on, this one not included
abbrev pub EachBehind : End → List Edge → ℕ → Option ℕ → (ℕ → Type 0) → Type 0
EachBehind end edges task at P = (e : ℕ) → bound_of at ≤ e → e < length edges → task_at end (edge_at edges e) ≡ task → P e

pub start_chain : (end : End) (edges : List Edge) (task : ℕ) (at : Option ℕ) → at ≡ last_edge end edges task (length edges) → IsOnChain end edges task at
start_chain end edges task at is = record { bound = length edges; inside = omega arith; is = is }

pub start_each : (end : End) (edges : List Edge) (task : ℕ) (at : Option ℕ) (P : ℕ → Type 0) → at ≡ last_edge end edges task (length edges) → EachBehind end edges task at P
start_each end edges task at P is = λ e low high same. absurd (none_behind end edges task (length edges) e (subst (λ o. bound_of o ≤ e) is low) high same)

pub chain_edge : (end : End) (edges : List Edge) (task : ℕ) (at : Option ℕ) (e : ℕ) → IsOnChain end edges task at → at ≡ Some e → (e < length edges) × (task_at end (edge_at edges e) ≡ task)
chain_edge end edges task at e on is =
    let found : (e < on.bound) × (task_at end (edge_at edges e) ≡ task) = last_found end edges task on.bound e (sym on.is ∙ is) in
    let inside : on.bound ≤ length edges = on.inside in
    (omega (arith, found.0), found.1)

pub next_chain : (end : End) (edges : List Edge) (task : ℕ) (at next : Option ℕ) (e : ℕ) → IsOnChain end edges task at → at ≡ Some e → next ≡ last_edge end edges task e → IsOnChain end edges task next
next_chain end edges task at next e on is next_is =
    let found : (e < length edges) × (task_at end (edge_at edges e) ≡ task) = chain_edge end edges task at e on is in
    record { bound = e; inside = omega (arith, found.0); is = next_is }

pub next_each : (end : End) (edges : List Edge) (task : ℕ) (at next : Option ℕ) (e : ℕ) (P : ℕ → Type 0) → at ≡ Some e → next ≡ last_edge end edges task e
    → EachBehind end edges task at P → P e → EachBehind end edges task next P
next_each end edges task at next e P is next_is each here = λ k low high same. elim (cases_order k e) [
  | inl equal ↦ subst P (sym equal) here
  | inr (inl less) ↦ absurd (none_behind end edges task e k (subst (λ o. bound_of o ≤ k) next_is low) less same)
  | inr (inr more) ↦ each k (subst (λ o. bound_of o ≤ k) (sym is) (omega arith)) high same
]

-- each step along a chain leads down
bound_low : (end : End) (edges : List Edge) (task n : ℕ) → bound_of (last_edge end edges task n) ≤ n
bound_low end edges task n = by_case (last_edge end edges task n) refl where
  by_case : (o : Option ℕ) → last_edge end edges task n ≡ o → bound_of o ≤ n
  by_case None is = omega arith
  by_case (Some e) is = let found = last_found end edges task n e is in omega (arith, found.0)

pub next_lower : (end : End) (edges : List Edge) (task : ℕ) (at next : Option ℕ) (e : ℕ) → at ≡ Some e → next ≡ last_edge end edges task e → bound_of next < bound_of at
next_lower end edges task at next e is next_is =
    let low = bound_low end edges task e in
    let a : bound_of at ≡ e + 1 = ap bound_of is in
    let b : bound_of next ≡ bound_of (last_edge end edges task e) = ap bound_of next_is in
    omega (arith, low, a, b)

-- a step of a chain whose end is known by another name
pub next_named : (end own : End) (edges : List Edge) (task e : ℕ) (next : Option ℕ) → own ≡ end → task_at end (edge_at edges e) ≡ task
    → ((t : ℕ) → t ≡ task_at own (edge_at edges e) → next ≡ last_edge own edges t e) → next ≡ last_edge end edges task e
next_named end own edges task e next same is told =
    told task (sym is ∙ ap (λ x. task_at x (edge_at edges e)) (sym same)) ∙ ap (λ x. last_edge x edges task e) same

-- what holds of each edge's target holds of all targets
pub each_target : (edges : List Edge) (task : ℕ) (at : Option ℕ) (Q : ℕ → Type 0) → EachBehind ends.Task edges task at (λ e. Q (edge_at edges e).target) → at ≡ None → (target : ℕ) → Needs edges task target → Q target
each_target edges task at Q each is target need =
    let found : (n : ℕ) × IsEdge edges task target n = needs_edge edges task target need in
    let none : bound_of at ≡ 0 = ap bound_of is in
    subst Q found.1.target_is (each found.0 (omega (arith, none)) found.1.inside found.1.task_is)
