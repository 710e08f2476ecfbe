-- Levels that no edge leads up: what reaches itself has an edge inside its level.
use Rattle.std.proofs.Common.{◌≡◌, ◌<◌, ◌≤◌, inl, inr, ℕ, zero, suc, List, length, get_or, ap, subst, arith, Option, Some, None}
use Rattle.std.specs.Option.{IfSome}
use Rattle.std.proofs.lemmas.Bool.{cases_lt}
use Rattle.glk_order.specs.declared.edges.Edge.{Edge}
use Rattle.glk_order.specs.Order.{Needs, Walk, IsOnCycle}
use Rattle.glk_order.specs.Chains.{edge_at}
use Rattle.glk_order.proofs.EdgeChains.{IsEdge, needs_edge}

abbrev pub level_of : List ℕ → ℕ → ℕ
level_of levels task = get_or levels task 0

-- the least task is there, and no greater than this one
abbrev pub IsLeastOf : Option ℕ → ℕ → Type 0
IsLeastOf None task = ⊥
IsLeastOf (Some least) task = least ≤ task

-- The first n edges lead to no higher level; those inside a level are of no task below the least, and without one there are none.
pub record AreLevels (edges : List Edge) (levels : List ℕ) (n : ℕ) (least : Option ℕ) : Type 0 where
  pub no_higher : (e : ℕ) → e < n → level_of levels (edge_at edges e).target ≤ level_of levels (edge_at edges e).task
  pub within : (e : ℕ) → e < n → level_of levels (edge_at edges e).target ≡ level_of levels (edge_at edges e).task → IsLeastOf least (edge_at edges e).task

edge_not_higher : (edges : List Edge) (levels : List ℕ) (least : Option ℕ) → AreLevels edges levels (length edges) least → (from to : ℕ) → Needs edges from to → level_of levels to ≤ level_of levels from
edge_not_higher edges levels least a from to need =
    let found : (n : ℕ) × IsEdge edges from to n = needs_edge edges from to need in
    let low = a.no_higher found.0 found.1.inside in
    let one = ap (level_of levels) found.1.task_is in
    let two = ap (level_of levels) found.1.target_is in
    omega (arith, low, one, two)

-- the edges of a task below the least lead to lower levels
one_lower : (edges : List Edge) (levels : List ℕ) (least : Option ℕ) → AreLevels edges levels (length edges) least → (from to : ℕ) → (IsLeastOf least from → ⊥) → Needs edges from to → level_of levels to < level_of levels from
one_lower edges levels least a from to below need =
    let found : (n : ℕ) × IsEdge edges from to n = needs_edge edges from to need in
    let low = a.no_higher found.0 found.1.inside in
    let one = ap (level_of levels) found.1.task_is in
    let two = ap (level_of levels) found.1.target_is in
    elim (cases_lt (level_of levels to) (level_of levels from)) [
      | inl less ↦ less
      | inr more ↦ (
          let same : level_of levels (edge_at edges found.0).target ≡ level_of levels (edge_at edges found.0).task = omega (arith, low, one, two) in
          absurd (below (subst (IsLeastOf least) found.1.task_is (a.within found.0 found.1.inside same))))
    ]

lower : (edges : List Edge) (levels : List ℕ) (least : Option ℕ) → AreLevels edges levels (length edges) least → (n from to : ℕ) → (IsLeastOf least from → ⊥) → Walk edges from to n → level_of levels to < level_of levels from
lower edges levels least a zero from to below walk = one_lower edges levels least a from to below walk
lower edges levels least a (suc n) from to below walk =
    let first = lower edges levels least a n from walk.0 below walk.1 in
    let second = edge_not_higher edges levels least a walk.0 to walk.2 in
    omega (arith, first, second)

-- so no task below the least is on a cycle
pub least_on_cycle : (edges : List Edge) (levels : List ℕ) (least : ℕ) → AreLevels edges levels (length edges) (Some least) → (other : ℕ) → IsOnCycle edges other → least ≤ other
least_on_cycle edges levels least a other cycle = elim (cases_lt other least) [
  | inl below ↦ (
      let none : IsLeastOf (Some least) other → ⊥ = λ at. omega (arith, at) in
      let less = lower edges levels (Some least) a cycle.0 other other none cycle.1 in
      absurd (omega (arith, less)))
  | inr above ↦ above
]

pub least_below : (edges : List Edge) (levels : List ℕ) (n : ℕ) (least : Option ℕ) → AreLevels edges levels n least → n ≡ length edges → IfSome least (λ task. (other : ℕ) → IsOnCycle edges other → task ≤ other)
least_below edges levels n None a whole = tt
least_below edges levels n (Some least) a whole = least_on_cycle edges levels least (subst (λ (k : ℕ). AreLevels edges levels k (Some least)) whole a)
