-- Counts of open edges.
use Rattle.std.proofs.Common.{◌≡◌, ◌+◌, ◌<◌, ◌≤◌, ◌∙◌, ◌&&◌, inl, inr, ℕ, zero, suc, Bool, true, false, cond, not, List, [], ◌∷◌, length, get_or, take, drop, set, refl, ap, sym, subst, arith, eqb, Some, add-one}
use Rattle.std.specs.List.{count_by}
use Rattle.std.proofs.lemmas.Bool.{eq-eqb, ne_eqb, both_ways, cases_eq, cases_Bool}
use Rattle.std.proofs.lemmas.List.{get_or-set_same, get_or-set_other, take_all, drop_all}
use Rattle.std.proofs.lemmas.List.Sums.{sum_by-cons, sum_by_more, sum_by-drop_more}
use Rattle.glk_order.specs.declared.edges.Edge.{Edge}
use Rattle.glk_order.specs.declared.edges.End.TheVariants as end
use Rattle.glk_order.specs.Order.{Needs}
use Rattle.glk_order.specs.Chains.{no_edge, edge_at, last_edge}
use Rattle.glk_order.specs.Progress.{is_listed, is_open, open_count}
use Rattle.glk_order.proofs.EdgeChains.{bound_of, IsEdge, needs_edge, needs_by}

-- one where a test holds
abbrev pub one_if : Bool → ℕ
one_if b = cond b 1 0

-- a count of nothing, and what passes no test
pub none_counted : {X : Type 0} (p : X → Bool) (xs : List X) (d : X) → count_by p xs ≡ 0 → (k : ℕ) → k < length xs → p (get_or xs k d) ≡ false
none_counted p [] d none k inside = absurd (omega arith)
none_counted p (x ∷ xs) d none zero inside =
    let c : count_by p (x ∷ xs) ≡ one_if (p x) + count_by p xs = sum_by-cons (λ y. cond (p y) 1 0) x xs in
    elim (cases_Bool (p x)) [
      | inl yes_ ↦ (let one : one_if (p x) ≡ 1 = ap one_if yes_ in absurd (omega (arith, c, none, one)))
      | inr no_ ↦ no_
    ]
none_counted p (x ∷ xs) d none (suc k) inside =
    let c : count_by p (x ∷ xs) ≡ one_if (p x) + count_by p xs = sum_by-cons (λ y. cond (p y) 1 0) x xs in
    none_counted p xs d (omega (arith, c, none)) k (omega arith)

pub count_none : {X : Type 0} (p : X → Bool) (xs : List X) (d : X) → ((k : ℕ) → k < length xs → p (get_or xs k d) ≡ false) → count_by p xs ≡ 0
count_none p [] d none = refl
count_none p (x ∷ xs) d none =
    let c : count_by p (x ∷ xs) ≡ one_if (p x) + count_by p xs = sum_by-cons (λ y. cond (p y) 1 0) x xs in
    let first : one_if (p x) ≡ 0 = ap one_if (none 0 (omega arith)) in
    let rest : count_by p xs ≡ 0 = count_none p xs d (λ k inside. none (suc k) (omega arith)) in
    omega (arith, c, first, rest)

-- tests that agree count the same
pub count_same : {X : Type 0} (p q : X → Bool) (xs : List X) → ((x : X) → p x ≡ q x) → count_by p xs ≡ count_by q xs
count_same p q [] same = refl
count_same p q (x ∷ xs) same =
    let a : count_by p (x ∷ xs) ≡ one_if (p x) + count_by p xs = sum_by-cons (λ y. cond (p y) 1 0) x xs in
    let b : count_by q (x ∷ xs) ≡ one_if (q x) + count_by q xs = sum_by-cons (λ y. cond (q y) 1 0) x xs in
    let here : one_if (p x) ≡ one_if (q x) = ap one_if (same x) in
    let rest : count_by p xs ≡ count_by q xs = count_same p q xs same in
    omega (arith, a, b, here, rest)

-- no open edge: each target is listed
pub none_open : (listed : List Bool) (edges : List Edge) (task : ℕ) → open_count listed edges task ≡ 0 → (target : ℕ) → Needs edges task target → is_listed listed target ≡ true
none_open listed edges task none target need =
    let found : (n : ℕ) × IsEdge edges task target n = needs_edge edges task target need in
    let closed : is_open listed task (edge_at edges found.0) ≡ false = none_counted (is_open listed task) edges no_edge none found.0 found.1.inside in
    let own : eqb (edge_at edges found.0).task task ≡ true = eq-eqb _ _ found.1.task_is in
    let is : is_listed listed (edge_at edges found.0).target ≡ true = elim (cases_Bool (is_listed listed (edge_at edges found.0).target)) [
      | inl yes_ ↦ yes_
      | inr no_ ↦ absurd (both_ways (is_open listed task (edge_at edges found.0)) closed (ap (λ b. b && not (is_listed listed (edge_at edges found.0).target)) own ∙ ap not no_))
    ] in
    subst (λ (t : ℕ). is_listed listed t ≡ true) found.1.target_is is

pub open_none : (listed : List Bool) (edges : List Edge) (task : ℕ) → ((target : ℕ) → Needs edges task target → is_listed listed target ≡ true) → open_count listed edges task ≡ 0
open_none listed edges task all = count_none (is_open listed task) edges no_edge (λ k inside.
    elim (cases_eq (edge_at edges k).task task) [
      | inl own ↦ (
          let is : is_listed listed (edge_at edges k).target ≡ true = all (edge_at edges k).target (needs_by edges k task (edge_at edges k).target inside own refl) in
          ap (λ b. b && not (is_listed listed (edge_at edges k).target)) (eq-eqb _ _ own) ∙ ap not is)
      | inr other ↦ ap (λ b. b && not (is_listed listed (edge_at edges k).target)) (ne_eqb _ _ other)
    ])

-- How many edges of a task are open, where some of the edges to a task that is listed are closed: those from n on.
abbrev pub split_count : List Bool → List Bool → List Edge → ℕ → ℕ → ℕ
split_count before now edges n task = open_count before (take n edges) task + open_count now (drop n edges) task

-- what is open at one edge before and after the target is listed
open_edge : (listed : List Bool) (target task : ℕ) (edge : Edge) → target < length listed → is_listed listed target ≡ false
    → one_if (is_open listed task edge) ≡ one_if (is_open (set listed target true) task edge) + one_if (eqb edge.target target && eqb edge.task task)
open_edge listed target task edge inside unlisted = elim (cases_eq edge.target target) [
  | inl here ↦ (
      let was : is_listed listed edge.target ≡ false = subst (λ (t : ℕ). is_listed listed t ≡ false) (sym here) unlisted in
      let is : is_listed (set listed target true) edge.target ≡ true = subst (λ (t : ℕ). is_listed (set listed target true) t ≡ true) (sym here) (get_or-set_same listed target true false inside) in
      rw (was, is, eq-eqb _ _ here) (by_case (eqb edge.task task)))
  | inr other ↦ rw (get_or-set_other listed target edge.target true false other, ne_eqb _ _ other) (omega arith)
]
  where
    by_case : (b : Bool) → one_if (b && not false) ≡ one_if (b && not true) + one_if (true && b)
    by_case true = refl
    by_case false = refl

pub split_step : (listed : List Bool) (target : ℕ) (edges : List Edge) (n task : ℕ) → target < length listed → is_listed listed target ≡ false → n < length edges
    → split_count listed (set listed target true) edges (n + 1) task
    ≡ split_count listed (set listed target true) edges n task + one_if (eqb (edge_at edges n).target target && eqb (edge_at edges n).task task)
split_step listed target edges n task inside unlisted within =
    let now : List Bool = set listed target true in
    let a : open_count listed (take (n + 1) edges) task ≡ open_count listed (take n edges) task + one_if (is_open listed task (edge_at edges n)) =
    sum_by_more (λ e. cond (is_open listed task e) 1 0) edges n no_edge within in
    let b : open_count now (drop n edges) task ≡ one_if (is_open now task (edge_at edges n)) + open_count now (drop (n + 1) edges) task =
    sum_by-drop_more (λ e. cond (is_open now task e) 1 0) edges n no_edge within in
    let c : one_if (is_open listed task (edge_at edges n)) ≡ one_if (is_open now task (edge_at edges n)) + one_if (eqb (edge_at edges n).target target && eqb (edge_at edges n).task task) =
    open_edge listed target task (edge_at edges n) inside unlisted in
    omega (arith, a, b, c)

-- between an edge of the chain and the next nothing changes
pub split_chain : (listed : List Bool) (target : ℕ) (edges : List Edge) (n task : ℕ) → target < length listed → is_listed listed target ≡ false → n ≤ length edges
    → split_count listed (set listed target true) edges n task
    ≡ split_count listed (set listed target true) edges (bound_of (last_edge end.Target edges target n)) task
split_chain listed target edges zero task inside unlisted within = refl
split_chain listed target edges (suc n) task inside unlisted within =
    elim (eqb (edge_at edges n).target target) as (λ b. eqb (edge_at edges n).target target ≡ b
    → split_count listed (set listed target true) edges (suc n) task ≡ split_count listed (set listed target true) edges (bound_of (cond b (Some n) (last_edge end.Target edges target n))) task) [
      | true ↦ λ here. rw add-one refl
      | false ↦ λ other.
          let step : split_count listed (set listed target true) edges (suc n) task ≡ split_count listed (set listed target true) edges n task + one_if (eqb (edge_at edges n).target target && eqb (edge_at edges n).task task) =
          rw add-one at (split_step listed target edges n task inside unlisted (omega arith)) in
          let none : one_if (eqb (edge_at edges n).target target && eqb (edge_at edges n).task task) ≡ 0 = ap (λ b. one_if (b && eqb (edge_at edges n).task task)) other in
          let rest = split_chain listed target edges n task inside unlisted (omega arith) in
          omega (arith, step, none) ∙ rest
    ] refl

-- at first all edges to the target are open, and at last all are closed
pub split_all : (listed now : List Bool) (edges : List Edge) (task : ℕ) → split_count listed now edges (length edges) task ≡ open_count listed edges task
split_all listed now edges task =
    let a : take (length edges) edges ≡ edges = take_all (length edges) edges (omega arith) in
    let b : drop (length edges) edges ≡ [] = drop_all (length edges) edges (omega arith) in
    let first : open_count listed (take (length edges) edges) task ≡ open_count listed edges task = ap (λ es. open_count listed es task) a in
    let second : open_count now (drop (length edges) edges) task ≡ 0 = ap (λ es. open_count now es task) b in
    omega (arith, first, second)

pub split_none : (listed now : List Bool) (edges : List Edge) (task : ℕ) → split_count listed now edges 0 task ≡ open_count now edges task
split_none listed now edges task = omega arith
