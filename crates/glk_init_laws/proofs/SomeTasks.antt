-- A root has tasks, a first target without a definition or none, and a cycle or an order.
use Rattle.std.proofs.Common.{◌≡◌, ◌<◌, ◌↔◌, ◌∙◌, ◌+◌, cond, ℕ, zero, suc, Bool, true, false, List, [], ◌∷◌, filter, ◌⊎◌, Option, Some, None, inl, inr, refl, sym, subst, arith, true≢false}
use Rattle.std.specs.Prelude.{IsTrue}
use Rattle.std.specs.List.{All, Contains, range_with_len}
use Rattle.std.specs.List.Sorted.{IsStrictlyIncreasing}
use Rattle.std.proofs.lemmas.List.Elements.{All-contains, All-cons, All-nil}
use Rattle.std.proofs.lemmas.List.FromFn.{get_or-range_with_len, length-range_with_len}
use Rattle.std.proofs.lemmas.List.Kept.{IsStrictlyIncreasing-filter}
use Rattle.std.proofs.lemmas.Map.Keys.{le_from_is_le}
use Rattle.glk_closure.specs.Graph.{Keeps}
use Rattle.glk_closure.specs.Reach.{Fact, Kept, Iface, Sig, Named, Reflect, Step, K1, K2, K3, M1, Reach}
use Rattle.glk_closure.proofs.Derivations.{Reach-least, Reach-step, Contains-cons_cases, Contains-head, Contains-nil}
use Rattle.glk_closure_laws.proofs.Clauses.{in_tail}
use Rattle.glk_closure.specs.Graph as graph
use Rattle.glk_closure_laws.specs.Laws.{IsGraphWithin}
use Rattle.glk_closure_laws.proofs.Facts.{has_facts}
use Rattle.glk_init.specs.declared.order.InitCycle.{InitCycle}
use Rattle.glk_init.specs.declared.program.InitEdge.{InitEdge}
use Rattle.glk_init.specs.declared.tasks.UndefinedTarget.{UndefinedTarget}
use Rattle.glk_init.specs.Graph.{InitGraph}
use Rattle.glk_init.specs.Order.{Walk, IsOnCycle, IsLeastOnCycle}
use Rattle.glk_init.specs.Reached.{awaited_graph}
use Rattle.glk_init.specs.Tasks.{AreTasks, Awaits, IsTask, IsReachedBy, IsWhole, IsFirstUndefined, awaited, undefined_edge}
use Rattle.glk_init.proofs.OrderLemmas.{targets_defined}
use Rattle.glk_init.proofs.TaskLemmas.{kept_are_tasks, kept_target, keeps_awaited, awaited_within, targets_within, task_is_defined}
use Rattle.glk_init_laws.specs.Existence.{AreEdgesWithin, AreWhole, IsAcyclicList}
use Rattle.glk_init_laws.proofs.Leasts.{least_of}
use Rattle.glk_init_laws.proofs.Lists.{is_in}
use Rattle.glk_init_laws.proofs.Ones.{none_is_some}
use Rattle.glk_init_laws.proofs.SomeOrder.{some_list}

graph_within : (g : InitGraph) (roots : List ℕ) → AreEdgesWithin g → All (λ r. r < g.keys) roots → IsGraphWithin (awaited_graph g roots)
graph_within g roots edges inside = record { roots = inside; effects = λ k l. awaited_within g k (edges k l) }

-- what is awaited has a definition, and is a task
further : (g : InitGraph) (root : ℕ) → AreWhole g root → (k t : ℕ) → IsTask g root k → Awaits g k t → IsTask g root t
further g root whole k t is a = (suc is.0, (k, is.1, a, targets_defined g (g.edges k) t (whole k is) a))

-- Walks.

-- what is claimed of a fact: that a kept symbol is at the end of a walk
abbrev IsWalkFact : InitGraph → ℕ → Fact → Type 0
IsWalkFact g k (Kept t) = (n : ℕ) × Walk g k t n
IsWalkFact g k (Iface t) = Unit {0}
IsWalkFact g k (Sig n t) = Unit {0}
IsWalkFact g k (Named n) = Unit {0}
IsWalkFact g k Reflect = Unit {0}

walk_on : (g : InitGraph) (k u t : ℕ) → ((n : ℕ) × Walk g k u n) → Awaits g u t → (n : ℕ) × Walk g k t n
walk_on g k u t walk a = (suc walk.0, (u, walk.1, a))

rule_walks : (g : InitGraph) (k : ℕ) (f : Fact) → Step (awaited_graph g (awaited g k)) (IsWalkFact g k) f → IsWalkFact g k f
rule_walks g k (Kept t) (K1 r c d) = (zero, c)
rule_walks g k (Kept t) (K2 u v h (inl has) d) =
    let x = kept_target (awaited g u) (Keeps v) has in
    walk_on g k u v h (subst (Contains (awaited g u)) (sym x.2) x.1)
rule_walks g k (Kept t) (K2 u v h (inr has) d) = absurd (kept_target (awaited g u) (graph.Links v) has).2
rule_walks g k (Kept t) (K3 u v h has d) = absurd (kept_target (awaited g u) (graph.Funcdata v) has).2
rule_walks g k (Kept t) (M1 u v n x f h j has wakes w o d) = absurd (kept_target (awaited g u) (graph.Method (Some n) x) has).2
rule_walks g k (Iface t) s = tt
rule_walks g k (Sig n t) s = tt
rule_walks g k (Named n) s = tt
rule_walks g k Reflect s = tt

module _ (g : InitGraph) (root : ℕ) (whole : AreWhole g root) where
  walk_ends : (k : ℕ) → IsTask g root k → (n t : ℕ) → Walk g k t n → IsTask g root t
  walk_ends k is zero t a = further g root whole k t is a
  walk_ends k is (suc n) t w = further g root whole w.0 t (walk_ends k is n w.0 w.1) w.2

  defined : (k : ℕ) → IsTask g root k → IsTrue (g.defined k)
  defined k is = task_is_defined g root is.0 k is.1

  walk_reached : (k : ℕ) → IsTask g root k → (n t : ℕ) → Walk g k t n → Reach (awaited_graph g (awaited g k)) (Kept t)
  walk_reached k is zero t a = Reach-step (K1 t a (defined t (walk_ends k is zero t a)))
  walk_reached k is (suc n) t w =
      Reach-step (K2 w.0 t (walk_reached k is n w.0 w.1) (inl (keeps_awaited (awaited g w.0) t w.2)) (defined t (walk_ends k is (suc n) t w)))

  module _ (edges : AreEdgesWithin g) (keys : (k : ℕ) → IsTask g root k → k < g.keys) where
    on_cycle : (k : ℕ) → IsTask g root k → IsOnCycle g k ⊎ (IsOnCycle g k → ⊥)
    on_cycle k is =
        let graph = awaited_graph g (awaited g k) in
        let facts = has_facts graph (graph_within g (awaited g k) edges (targets_within g.keys (g.edges k) (edges k (keys k is)))) in
        by (facts.0 (Kept k)) (facts.1 (Kept k))
      where
        by : (b : Bool) → IsTrue b ↔ Reach (awaited_graph g (awaited g k)) (Kept k) → IsOnCycle g k ⊎ (IsOnCycle g k → ⊥)
        by true h = inl (Reach-least (awaited_graph g (awaited g k)) (IsWalkFact g k) (rule_walks g k) (Kept k) (h.0 refl))
        by false h = inr (λ c. absurd (true≢false (sym (h.1 (walk_reached k is c.0 k c.1)))))

    -- the least task on a cycle, or no cycle and a list
    abbrev IsCyclic : ℕ → Type 0
    IsCyclic k = IsTask g root k × IsOnCycle g k

    module _ (tasks : List ℕ) (are : AreTasks g root tasks) where
      cyclic : (k : ℕ) → IsCyclic k ⊎ (IsCyclic k → ⊥)
      cyclic k = elim (is_in tasks k) [
        | inr fails ↦ inr (λ c. fails ((are.exact k).1 c.0))
        | inl there ↦ (
            let is : IsTask g root k = (are.exact k).0 there in
            elim (on_cycle k is) [ inl cycle ↦ inl (is, cycle) | inr fails ↦ inr (λ c. fails c.1) ])
      ]

      pub list_or_cycle : ((cycle : InitCycle) × IsLeastOnCycle g root cycle) ⊎ ((list : List ℕ) × IsAcyclicList g root list)
      list_or_cycle = elim (least_of g IsCyclic cyclic tasks) [
        | inl one ↦ inl (
          record { task = one.0 },
          record {
            task = one.1.holds.0;
            on_cycle = one.1.holds.1;
            least = λ other is c. one.1.least other ((are.exact other).1 is) (is, c);
          },
        )
        | inr none ↦ inr (some_list g root tasks are (further g root whole) (λ k is c. none k ((are.exact k).1 is) (is, c)))
      ]

-- The tasks themselves.

-- what a test keeps of a list passes it, and was there
holds_behind : (p : ℕ → Bool) (x : ℕ) (rest : List ℕ) (k : ℕ) → ((c : Contains rest k) → IsTrue (p k)) → (b : Bool) → p x ≡ b → Contains (cond b (x ∷ rest) rest) k → IsTrue (p k)
holds_behind p x rest k later true e h = elim (Contains-cons_cases x rest k h) [ inl same ↦ subst (λ y. IsTrue (p y)) same e | inr c ↦ later c ]
holds_behind p x rest k later false e h = later h

filter_holds : (p : ℕ → Bool) (xs : List ℕ) (k : ℕ) → Contains (filter p xs) k → IsTrue (p k)
filter_holds p [] k c = absurd (Contains-nil k c)
filter_holds p (x ∷ xs) k c = holds_behind p x (filter p xs) k (filter_holds p xs k) (p x) refl c

has_behind : (p : ℕ → Bool) (x : ℕ) (xs rest : List ℕ) (k : ℕ) → IsTrue (p k) → (Contains xs k → Contains rest k) → (b : Bool) → p x ≡ b → (x ≡ k) ⊎ Contains xs k → Contains (cond b (x ∷ rest) rest) k
has_behind p x xs rest k h later true e (inl same) = subst (λ y. Contains (x ∷ rest) y) same (Contains-head x rest)
has_behind p x xs rest k h later true e (inr c) = in_tail x rest k (later c)
has_behind p x xs rest k h later false e (inl same) = absurd (true≢false (sym (subst (λ y. IsTrue (p y)) (sym same) h) ∙ e))
has_behind p x xs rest k h later false e (inr c) = later c

filter_has : (p : ℕ → Bool) (xs : List ℕ) (k : ℕ) → Contains xs k → IsTrue (p k) → Contains (filter p xs) k
filter_has p [] k c h = absurd (Contains-nil k c)
filter_has p (x ∷ xs) k c h = has_behind p x xs (filter p xs) k h (λ later. filter_has p xs k later h) (p x) refl (Contains-cons_cases x xs k c)

range_has : (n k : ℕ) → k < n → Contains (range_with_len 0 n) k
range_has n k l = (k, omega (arith, l, length-range_with_len 0 n), (get_or-range_with_len 0 n k k l ∙ (omega arith)))

range_rises : (n : ℕ) → IsStrictlyIncreasing (range_with_len 0 n)
range_rises n k l =
    let inside : k + 1 < n = omega (arith, l, length-range_with_len 0 n) in
    omega (arith, get_or-range_with_len 0 n k 0 (omega (arith, inside)), get_or-range_with_len 0 n (k + 1) 0 inside)

-- each task is a key
task_is_key : (g : InitGraph) (root : ℕ) → AreEdgesWithin g → root < g.keys → (n k : ℕ) → IsReachedBy g root n k → k < g.keys
task_is_key g root edges inside zero k h = subst (λ j. j < g.keys) (sym h.0) inside
task_is_key g root edges inside (suc n) k h =
    let from : h.0 < g.keys = task_is_key g root edges inside n h.0 h.1 in
    All-contains (λ t. t < g.keys) (awaited g h.0) k (targets_within g.keys (g.edges h.0) (edges h.0 from)) h.2

module _ (g : InitGraph) (root : ℕ) (edges : AreEdgesWithin g) (inside : root < g.keys) where
  facts : (tests : Fact → Bool) × ((f : Fact) → IsTrue (tests f) ↔ Reach (awaited_graph g (root ∷ [])) f)
  facts = has_facts (awaited_graph g (root ∷ [])) (graph_within g (root ∷ []) edges (All-cons (λ r. r < g.keys) root [] inside (All-nil (λ r. r < g.keys))))

  abbrev is_task : ℕ → Bool
  is_task k = facts.0 (Kept k)

  is_task_iff : (k : ℕ) → IsTrue (is_task k) ↔ IsTask g root k
  is_task_iff k =
      let f = facts.1 (Kept k) in
      let t = kept_are_tasks g root k in
      ((λ h. t.0 (f.0 h)), (λ h. f.1 (t.1 h)))

  abbrev list : List ℕ
  list = filter is_task (range_with_len 0 g.keys)

  pub some_tasks : (tasks : List ℕ) × AreTasks g root tasks
  some_tasks = (
    list,
    record {
      rising = IsStrictlyIncreasing-filter is_task (range_with_len 0 g.keys) (range_rises g.keys);
      exact = λ k. (
        (λ c. (is_task_iff k).0 (filter_holds is_task (range_with_len 0 g.keys) k c)),
        (λ h. filter_has is_task (range_with_len 0 g.keys) k (range_has g.keys k (task_is_key g root edges inside h.0 k h.1)) ((is_task_iff k).1 h)),
      );
    },
  )

-- The first target without a definition.

-- a program in which no symbol has a name: its symbols are compared by their load positions
abbrev nameless : InitGraph → InitGraph
nameless g = record { keys = g.keys; defined = g.defined; name = λ k. []; position = g.position; size = g.size; edges = g.edges }

lacks_none : (g : InitGraph) (k : ℕ) → (IsWhole g k → ⊥) ⊎ ((IsWhole g k → ⊥) → ⊥)
lacks_none g k = by (undefined_edge g k) refl
  where
    by : (o : Option InitEdge) → undefined_edge g k ≡ o → (IsWhole g k → ⊥) ⊎ ((IsWhole g k → ⊥) → ⊥)
    by None e = inr (λ h. h e)
    by (Some edge) e = inl (λ h. none_is_some (sym h ∙ e))

edge_of : (g : InitGraph) (k : ℕ) → (IsWhole g k → ⊥) → (edge : InitEdge) × (undefined_edge g k ≡ Some edge)
edge_of g k h = by (undefined_edge g k) refl
  where
    by : (o : Option InitEdge) → undefined_edge g k ≡ o → (edge : InitEdge) × (undefined_edge g k ≡ Some edge)
    by None e = absurd (h e)
    by (Some edge) e = (edge, e)

whole_of : (g : InitGraph) (k : ℕ) → ((IsWhole g k → ⊥) → ⊥) → IsWhole g k
whole_of g k h = by (undefined_edge g k) refl
  where
    by : (o : Option InitEdge) → undefined_edge g k ≡ o → IsWhole g k
    by None e = e
    by (Some edge) e = absurd (h (λ w. none_is_some (sym w ∙ e)))

pub first_undefined : (g : InitGraph) (root : ℕ) (tasks : List ℕ) → AreTasks g root tasks
    → ((u : UndefinedTarget) × IsFirstUndefined g root u) ⊎ AreWhole g root
first_undefined g root tasks are = elim (least_of (nameless g) (λ k. IsWhole g k → ⊥) (lacks_none g) tasks) [
  | inl one ↦ (
      let edge = edge_of g one.0 one.1.holds in
      inl (
        record { task = one.0; relocation = edge.0.relocation },
        record {
          task = (are.exact one.0).0 one.1.listed;
          edge = (edge.0, edge.1, refl);
          least = λ other is lacks. le_from_is_le (g.position one.0) (g.position other) (one.1.least other ((are.exact other).1 is) lacks);
        },
      ))
  | inr none ↦ inr (λ k is. whole_of g k (none k ((are.exact k).1 is)))
]

pub task_keys : (g : InitGraph) (root : ℕ) → AreEdgesWithin g → root < g.keys → (k : ℕ) → IsTask g root k → k < g.keys
task_keys g root edges inside k is = task_is_key g root edges inside is.0 k is.1

pub has_list_or_cycle : (g : InitGraph) (root : ℕ) (tasks : List ℕ) → AreEdgesWithin g → root < g.keys → AreTasks g root tasks → AreWhole g root
    → ((cycle : InitCycle) × IsLeastOnCycle g root cycle) ⊎ ((list : List ℕ) × IsAcyclicList g root list)
has_list_or_cycle g root tasks edges inside are whole = list_or_cycle g root whole edges (task_keys g root edges inside) tasks are
