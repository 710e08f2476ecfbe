-- An order of ranks is an order of tasks, and a cycle of ranks a cycle of tasks.
use Rattle.std.proofs.Common.{◌≡◌, ◌<◌, ◌≤◌, ℕ, zero, suc, Bool, true, false, not, List, [], ◌∷◌, map, length, get_or, take, slice_index, Option, Some, None, cond, refl, sym, subst, ap, ◌∙◌, inl, inr, ◌⊎◌, arith}
use Rattle.std.specs.Prelude.{IsTrue}
use Rattle.std.specs.List.{All, Contains, cons_option, filter_map, find}
use Rattle.std.proofs.Common.{true≢false}
use Rattle.std.proofs.lemmas.List.{length-map, get_or-map, take-map}
use Rattle.std.proofs.lemmas.List.Elements.{All-take, Contains-get_or, Contains-from_at, at_from_Contains}
use Rattle.glk_closure.proofs.Derivations.{Contains-cons_cases, Contains-nil}
use Rattle.glk_order.specs.declared.edges.Edge.{Edge}
use Rattle.glk_order.specs.Order as rank
use Rattle.glk_init.specs.declared.program.InitEdge.{InitEdge}
use Rattle.glk_init.specs.Graph.{InitGraph}
use Rattle.glk_init.specs.Tasks.{Awaits, IsTask, IsWhole, is_undefined, is_undefined_target}
use Rattle.glk_init.specs.Order.{IsNotAfter, IsReady, IsNext, IsOrder, Walk, IsOnCycle, IsLeastOnCycle}
use Rattle.glk_init.specs.Ranks.{AreRankEdges}

-- the tasks by rank, with the edges between them
pub record Ranked (g : InitGraph) (root : ℕ) (ranked : List ℕ) (edges : List Edge) : Type 0 where
  pub task_at : (i : ℕ) → i < length ranked → IsTask g root (slice_index ranked i)
  pub rank_of : (k : ℕ) → IsTask g root k → (i : ℕ) × (i < length ranked) × (slice_index ranked i ≡ k)
  pub apart : (i j : ℕ) → i < length ranked → j < length ranked → slice_index ranked i ≡ slice_index ranked j → i ≡ j
  pub sorted : (i j : ℕ) → i ≤ j → j < length ranked → IsNotAfter g (slice_index ranked i) (slice_index ranked j)
  pub edges_are : AreRankEdges g ranked edges
  pub closed : (k t : ℕ) → IsTask g root k → Awaits g k t → IsTask g root t

-- What a task waits for is a task, where all that it waits for has a definition.

-- a target that some relocations have, none of which lacks a definition, has one
defined_of : (g : InitGraph) (target : Option ℕ) (t : ℕ) → is_undefined_target g target ≡ false → target ≡ Some t → IsTrue (g.defined t)
defined_of g None t h e = absurd (true≢false h)
defined_of g (Some u) t h e = by (g.defined t) (sym (ap (is_undefined_target g) e) ∙ h)
  where
    by : (b : Bool) → not b ≡ false → b ≡ true
    by true h = refl
    by false h = absurd (true≢false h)

-- the first one is passed over by a search that finds nothing
abbrev IsFound : {X : Type 0} → Option X → Type 0
IsFound None = ⊥
IsFound (Some x) = Unit {0}

no_first : {X : Type 0} (b : Bool) (x : X) (rest : Option X) → cond b (Some x) rest ≡ None → (b ≡ false) × (rest ≡ None)
no_first true x rest h = absurd (subst IsFound h tt)
no_first false x rest h = (refl, h)

option_cases : (o : Option ℕ) (rest : List ℕ) (t : ℕ) → Contains (cons_option o rest) t → (o ≡ Some t) ⊎ Contains rest t
option_cases None rest t c = inr c
option_cases (Some u) rest t c =
    elim (Contains-cons_cases u rest t c) [ inl same ↦ inl (ap (λ (n : ℕ). Some n) same) | inr later ↦ inr later ]

pub targets_defined : (g : InitGraph) (edges : List InitEdge) (t : ℕ) → find (is_undefined g) edges ≡ None
    → Contains (filter_map (λ e. e.target) edges) t → IsTrue (g.defined t)
targets_defined g [] t h c = absurd (Contains-nil t c)
targets_defined g (e ∷ edges) t h c =
    let n = no_first (is_undefined g e) e (find (is_undefined g) edges) h in
    elim (option_cases e.target (filter_map (λ x. x.target) edges) t c) [
      | inl is ↦ defined_of g e.target t n.0 is
      | inr later ↦ targets_defined g edges t n.1 later
    ]

pub tasks_closed : (g : InitGraph) (root k t : ℕ) → IsWhole g k → IsTask g root k → Awaits g k t → IsTask g root t
tasks_closed g root k t whole task a = (suc task.0, (k, task.1, a, targets_defined g (g.edges k) t whole a))

-- Orders.

keys_in : (ranked ranks : List ℕ) (r : ℕ) → Contains ranks r → Contains (map (slice_index ranked) ranks) (slice_index ranked r)
keys_in ranked ranks r c =
    let at = at_from_Contains ranks r c in
    Contains-from_at (map (slice_index ranked) ranks) (slice_index ranked r) (
      at.0,
      subst (λ (n : ℕ). at.0 < n) (sym (length-map ranks (slice_index ranked))) at.1,
      λ d. get_or-map (slice_index ranked) ranks at.0 0 d at.1 ∙ ap (slice_index ranked) (at.2 0),
    )

rank_in : (ranked ranks : List ℕ) (k : ℕ) → Contains (map (slice_index ranked) ranks) k → (r : ℕ) × Contains ranks r × (slice_index ranked r ≡ k)
rank_in ranked ranks k c =
    let at = at_from_Contains (map (slice_index ranked) ranks) k c in
    let l : at.0 < length ranks = subst (λ (n : ℕ). at.0 < n) (length-map ranks (slice_index ranked)) at.1 in
    (slice_index ranks at.0, Contains-get_or ranks at.0 0 l, sym (get_or-map (slice_index ranked) ranks at.0 0 0 l) ∙ at.2 0)

module _ {g : InitGraph} {root : ℕ} {ranked : List ℕ} {edges : List Edge} (r : Ranked g root ranked edges) where
  -- what an edge leads to has a rank
  target_inside : (i j : ℕ) → rank.Needs edges i j → j < length ranked
  target_inside i j needs =
      let at = at_from_Contains edges (record { task = i; target = j }) needs in
      subst (λ (x : Edge). x.target < length ranked) (at.2 (record { task = 0; target = 0 })) (r.edges_are.inside at.0 (record { task = 0; target = 0 }) at.1).1

  -- ranks that are ready are of tasks that are
  ready_task : (earlier : List ℕ) (i : ℕ) → All (λ n. n < length ranked) earlier → rank.IsReady (length ranked) edges earlier i
      → IsReady g root (map (slice_index ranked) earlier) (slice_index ranked i)
  ready_task earlier i inside ready = record {
    task = r.task_at i ready.inside;
    later = λ c.
        let at = rank_in ranked earlier (slice_index ranked i) c in
        let below : at.0 < length ranked = let p = at_from_Contains earlier at.0 at.1 in subst (λ (n : ℕ). n < length ranked) (p.2 0) (inside p.0 0 p.1) in
        ready.later (subst (Contains earlier) (r.apart at.0 i below ready.inside at.2) at.1);
    targets = λ t a.
        let j = r.rank_of t (r.closed (slice_index ranked i) t (r.task_at i ready.inside) a) in
        let needs = r.edges_are.whole i j.0 ready.inside j.1 (subst (Awaits g (slice_index ranked i)) (sym j.2) a) in
        subst (Contains (map (slice_index ranked) earlier)) j.2 (keys_in ranked earlier j.0 (ready.targets j.0 needs));
  }

  -- and tasks that are ready have ranks that are
  ready_rank : (earlier : List ℕ) (i : ℕ) → i < length ranked → All (λ n. n < length ranked) earlier
      → IsReady g root (map (slice_index ranked) earlier) (slice_index ranked i) → rank.IsReady (length ranked) edges earlier i
  ready_rank earlier i l inside ready = record {
    inside = l;
    later = λ c. ready.later (keys_in ranked earlier i c);
    targets = λ j needs.
        let there : j < length ranked = target_inside i j needs in
        let back = rank_in ranked earlier (slice_index ranked j) (ready.targets (slice_index ranked j) (r.edges_are.sound i j needs)) in
        let below : back.0 < length ranked = let p = at_from_Contains earlier back.0 back.1 in subst (λ (n : ℕ). n < length ranked) (p.2 0) (inside p.0 0 p.1) in
        subst (Contains earlier) (r.apart back.0 j below there back.2) back.1;
  }

  next_task : (earlier : List ℕ) (i : ℕ) → All (λ n. n < length ranked) earlier → rank.IsNext (length ranked) edges earlier i
      → IsNext g root (map (slice_index ranked) earlier) (slice_index ranked i)
  next_task earlier i inside next = record {
    ready = ready_task earlier i inside next.ready;
    least = λ other ready.
        let j = r.rank_of other ready.task in
        let at : IsReady g root (map (slice_index ranked) earlier) (slice_index ranked j.0) = subst (IsReady g root (map (slice_index ranked) earlier)) (sym j.2) ready in
        let le = next.least j.0 (ready_rank earlier j.0 j.1 inside at) in
        subst (IsNotAfter g (slice_index ranked i)) j.2 (r.sorted i j.0 le j.1);
  }

  pub ranks_inside : (ranks : List ℕ) → rank.InOrder (length ranked) edges ranks → All (λ n. n < length ranked) ranks
  ranks_inside ranks order k d l = subst (λ (n : ℕ). n < length ranked) (same ranks k d l) (order k l).ready.inside
    where
      same : (xs : List ℕ) (k d : ℕ) → k < length xs → get_or xs k 0 ≡ get_or xs k d
      same [] k d l = omega (arith, l)
      same (x ∷ xs) zero d l = refl
      same (x ∷ xs) (suc k) d l = same xs k d (omega (arith, l))

  pub order_of_ranks : (ranks : List ℕ) → rank.IsOrder (length ranked) edges ranks → IsOrder g root (map (slice_index ranked) ranks)
  order_of_ranks ranks order =
      let inside = ranks_inside ranks order.in_order in
      record {
        in_order = λ i l.
            let here : i < length ranks = subst (λ (n : ℕ). i < n) (length-map ranks (slice_index ranked)) l in
            let next = next_task (take i ranks) (slice_index ranks i) (taken inside i) (order.in_order i here) in
            subst (λ (earlier : List ℕ). IsNext g root earlier (slice_index (map (slice_index ranked) ranks) i)) (sym (take-map (slice_index ranked) i ranks))
            (subst (IsNext g root (map (slice_index ranked) (take i ranks))) (sym (get_or-map (slice_index ranked) ranks i 0 0 here)) next);
        whole = λ k task.
            let j = r.rank_of k task in
            subst (Contains (map (slice_index ranked) ranks)) j.2 (keys_in ranked ranks j.0 (order.whole j.0 j.1));
      }
    where
      taken : All (λ n. n < length ranked) ranks → (i : ℕ) → All (λ n. n < length ranked) (take i ranks)
      taken h i = All-take (λ n. n < length ranked) i ranks h

  -- Cycles.

  -- a walk along edges is a walk of the tasks
  walk_task : (n i j : ℕ) → rank.Walk edges i j n → Walk g (slice_index ranked i) (slice_index ranked j) n
  walk_task zero i j needs = r.edges_are.sound i j needs
  walk_task (suc n) i j walk = (slice_index ranked walk.0, walk_task n i walk.0 walk.1, r.edges_are.sound walk.0 j walk.2)

  -- a walk from a task leads over tasks, and is a walk along edges
  walk_rank : (n i k : ℕ) → i < length ranked → Walk g (slice_index ranked i) k n
      → (j : ℕ) × (j < length ranked) × (slice_index ranked j ≡ k) × rank.Walk edges i j n
  walk_rank zero i k l a =
      let j = r.rank_of k (r.closed (slice_index ranked i) k (r.task_at i l) a) in
      (j.0, j.1, j.2, r.edges_are.whole i j.0 l j.1 (subst (Awaits g (slice_index ranked i)) (sym j.2) a))
  walk_rank (suc n) i k l walk =
      let m = walk_rank n i walk.0 l walk.1 in
      let a : Awaits g (slice_index ranked m.0) k = subst (λ (x : ℕ). Awaits g x k) (sym m.2) walk.2 in
      let j = r.rank_of k (r.closed (slice_index ranked m.0) k (r.task_at m.0 m.1) a) in
      (j.0, j.1, j.2, (m.0, m.3, r.edges_are.whole m.0 j.0 m.1 j.1 (subst (Awaits g (slice_index ranked m.0)) (sym j.2) a)))

  cycle_rank : (k : ℕ) → IsTask g root k → IsOnCycle g k → (i : ℕ) × (i < length ranked) × (slice_index ranked i ≡ k) × rank.IsOnCycle edges i
  cycle_rank k task cycle =
      let i = r.rank_of k task in
      let w = walk_rank cycle.0 i.0 k i.1 (subst (λ (x : ℕ). Walk g x k cycle.0) (sym i.2) cycle.1) in
      let same : w.0 ≡ i.0 = r.apart w.0 i.0 w.1 i.1 (w.2 ∙ sym i.2) in
      (i.0, i.1, i.2, (cycle.0, subst (λ (x : ℕ). rank.Walk edges i.0 x cycle.0) same w.3))

  pub no_cycle_of_ranks : ((i : ℕ) → rank.IsOnCycle edges i → ⊥) → (k : ℕ) → IsTask g root k → IsOnCycle g k → ⊥
  no_cycle_of_ranks none k task cycle = let c = cycle_rank k task cycle in none c.0 c.3

  -- a rank on a cycle is one
  on_edge : (n i j : ℕ) → rank.Walk edges i j n → j < length ranked
  on_edge zero i j needs = target_inside i j needs
  on_edge (suc n) i j walk = target_inside walk.0 j walk.2

  pub least_of_ranks : (i : ℕ) → rank.IsLeastOnCycle edges i → (i < length ranked) × IsLeastOnCycle g root (record { task = slice_index ranked i })
  least_of_ranks i least =
      let inside : i < length ranked = on_edge least.on_cycle.0 i i least.on_cycle.1 in (
        inside,
        record {
          task = r.task_at i inside;
          on_cycle = (least.on_cycle.0, walk_task least.on_cycle.0 i i least.on_cycle.1);
          least = λ other task cycle.
              let c = cycle_rank other task cycle in
              subst (IsNotAfter g (slice_index ranked i)) c.2 (r.sorted i c.0 (least.least c.0 c.3) c.1);
        },
      )
