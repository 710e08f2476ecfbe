-- Tasks that are sorted by name and load position, and what holds of their ranks.
use Rattle.std.proofs.Common.{◌≡◌, ◌<◌, ◌≤◌, ◌==◌, ℕ, Bool, true, false, List, [], ◌∷◌, map, length, get_or, slice_index, refl, sym, subst, ◌∙◌, inl, inr, arith, nat_eq}
use Rattle.std.proofs.Common.{true≢false}
use Rattle.std.specs.Cmp.{IsTotalOrder, nat_cmp_total, on_total, then_total}
use Rattle.std.specs.Cmp.Lexicographic.{slice_cmp, nat_list_cmp_total}
use Rattle.std.specs.List.{All, IsDistinct}
use Rattle.std.specs.List.Sorted.{IsPermutation, IsSorted, IsStrictlyIncreasing}
use Rattle.std.specs.Ordering.{is_le, is_lt, nat_cmp, ordering_then, ordering_reverse}
use Rattle.std.specs.declared.cmp.Ordering.{Ordering}
use Rattle.std.specs.declared.cmp.Ordering.TheVariants.{Less, Equal, Greater}
use Rattle.std.proofs.lemmas.Bool.{cases_lt, eqb-true, eq-eqb}
use Rattle.std.proofs.lemmas.List.{get_or-map, length-map}
use Rattle.std.proofs.lemmas.List.Elements.{All-get_or, Contains-get_or, at_from_Contains}
use Rattle.std.proofs.lemmas.List.Kept.{AllPairs-from_increasing}
use Rattle.std.proofs.lemmas.List.Sorted.{All-permutation, Contains-permutation, IsPermutation-map, IsPermutation-sym, ranks_by, sorted_far}
use Rattle.std.proofs.lemmas.Map.Keys.{IsDistinct-IsPermutation, IsDistinct-from_apart, apart_from_distinct}
use Rattle.glk_base.specs.declared.fault.Fault.{Fault}
use Rattle.glk_base.specs.declared.fault.Fault.TheVariants as fault
use Rattle.glk_order.specs.declared.edges.Edge.{Edge}
use Rattle.glk_order.specs.declared.order.Cycle.{Cycle}
use Rattle.glk_order.specs.Schedule.{IsFaultOf}
use Rattle.glk_init.specs.declared.ranks.NamedTask.{NamedTask}
use Rattle.glk_init.specs.Graph.{InitGraph}
use Rattle.glk_init.specs.Tasks.{AreTasks, IsTask, IsWhole}
use Rattle.glk_init.specs.Order.{IsNotAfter}
use Rattle.glk_init.specs.Ranks.{AreNamed, AreRanked, AreRankEdges, IsNamed, IsOrderFault, IsRankFault, fault_of_rank}
use Rattle.glk_init.proofs.OrderLemmas.{Ranked, least_of_ranks, tasks_closed}

-- what is not below by three orders is not after by the first two, the other way round
not_after : (n p k : Ordering) → is_lt (ordering_then (ordering_reverse n) (ordering_then (ordering_reverse p) k)) ≡ false → is_le (ordering_then n p) ≡ true
not_after Less p k h = refl
not_after Equal Less k h = refl
not_after Equal Equal k h = refl
not_after Equal Greater k h = absurd (true≢false h)
not_after Greater p k h = absurd (true≢false h)

-- the order of tasks as they are compared
abbrev pub named_cmp : NamedTask → NamedTask → Ordering
named_cmp a b =
    ordering_then (slice_cmp nat_cmp a.name.now b.name.now) (ordering_then (nat_cmp a.position b.position) (nat_cmp a.key b.key))

named_total : IsTotalOrder named_cmp
named_total =
    then_total (on_total (λ (t : NamedTask). t.name.now) nat_list_cmp_total)
    (then_total (on_total (λ (t : NamedTask). t.position) nat_cmp_total) (on_total (λ (t : NamedTask). t.key) nat_cmp_total))

-- two tasks, of which the second is not below the first
pair_sorted : (g : InitGraph) (a b : NamedTask) → IsNamed g a a.key → IsNamed g b b.key → is_lt (named_cmp b a) ≡ false → IsNotAfter g a.key b.key
pair_sorted g a b na nb h =
    let n : Ordering = slice_cmp nat_cmp a.name.now b.name.now in
    let p : Ordering = nat_cmp a.position b.position in
    let k : Ordering = nat_cmp b.key a.key in
    let flipped : is_lt (ordering_then (ordering_reverse n) (ordering_then (ordering_reverse p) k)) ≡ false
    = subst (λ (m : Ordering). is_lt (ordering_then m (ordering_then (ordering_reverse p) k)) ≡ false) (nat_list_cmp_total.antisymm b.name.now a.name.now)
    (subst (λ (q : Ordering). is_lt (ordering_then (slice_cmp nat_cmp b.name.now a.name.now) (ordering_then q k)) ≡ false) (nat_cmp_total.antisymm b.position a.position) h) in
    let done : is_le (ordering_then n p) ≡ true = not_after n p k flipped in
    rw (← na.name, ← nb.name, ← na.position, ← nb.position) done

keys_sorted : (g : InitGraph) (named : List NamedTask) → All (λ t. IsNamed g t t.key) named → IsSorted named_cmp named
    → (i j : ℕ) → i ≤ j → j < length (map (λ (t : NamedTask). t.key) named)
    → IsNotAfter g (slice_index (map (λ (t : NamedTask). t.key) named) i) (slice_index (map (λ (t : NamedTask). t.key) named) j)
keys_sorted g [] each up i j le l = absurd (omega (arith, l))
keys_sorted g (t ∷ ts) each up i j le l =
    let named : List NamedTask = t ∷ ts in
    let key : NamedTask → ℕ = λ (x : NamedTask). x.key in
    let lj : j < length named = subst (λ (n : ℕ). j < n) (length-map named key) l in
    let li : i < length named = omega (arith, le, lj) in
    let far = sorted_far (λ x y. is_lt (named_cmp x y)) (ranks_by named_total (λ (x : NamedTask). x)) named up i j t le lj in
    let both = pair_sorted g (get_or named i t) (get_or named j t) (All-get_or (λ x. IsNamed g x x.key) named i t li each) (All-get_or (λ x. IsNamed g x x.key) named j t lj each) far in
    subst (λ (a : ℕ). IsNotAfter g a (slice_index (map key named) j)) (sym (get_or-map key named i t 0 li))
    (subst (λ (b : ℕ). IsNotAfter g (get_or named i t).key b) (sym (get_or-map key named j t 0 lj)) both)

pub ranked_of_sort : (g : InitGraph) (tasks ranked : List ℕ) (named sorted : List NamedTask) → AreNamed g tasks named → IsPermutation named sorted
    → IsSorted named_cmp sorted → ranked ≡ map (λ (t : NamedTask). t.key) sorted → AreRanked g tasks ranked
ranked_of_sort g tasks ranked named sorted are same up is =
    let key : NamedTask → ℕ = λ (x : NamedTask). x.key in
    subst (AreRanked g tasks) (sym is) (record {
      same = subst (λ (xs : List ℕ). IsPermutation xs (map key sorted)) are.keys (IsPermutation-map key named sorted same);
      sorted = keys_sorted g sorted (All-permutation (λ t. IsNamed g t t.key) named sorted same are.each) up;
    })

-- Ranks.

unequal : (a b : ℕ) (t : Bool) → (a == b) ≡ t → (a ≡ b → ⊥) → t ≡ false
unequal a b true e h = absurd (h (eqb-true a b e))
unequal a b false e h = refl

pub tasks_distinct : (tasks : List ℕ) → IsStrictlyIncreasing tasks → IsDistinct nat_eq tasks
tasks_distinct tasks up =
    IsDistinct-from_apart nat_eq tasks (λ i j d l h.
    unequal (get_or tasks i d) (get_or tasks j d) _ refl (λ e. let lt = AllPairs-from_increasing tasks up i j d l h in omega (arith, e, lt)))

pub ranked_distinct : (tasks ranked : List ℕ) → IsStrictlyIncreasing tasks → IsPermutation tasks ranked → IsDistinct nat_eq ranked
ranked_distinct tasks ranked up same = IsDistinct-IsPermutation nat_eq flips tasks ranked same (tasks_distinct tasks up)
  where
    flips : (x y : ℕ) → nat_eq x y ≡ nat_eq y x
    flips x y = by (nat_eq x y) (nat_eq y x) (λ e. eq-eqb y x (sym (eqb-true x y e))) (λ e. eq-eqb x y (sym (eqb-true y x e)))
      where
        by : (a b : Bool) → (a ≡ true → b ≡ true) → (b ≡ true → a ≡ true) → a ≡ b
        by true b f k = sym (f refl)
        by false true f k = k refl
        by false false f k = refl

one_rank : (ranked : List ℕ) → IsDistinct nat_eq ranked → (i j : ℕ) → i < length ranked → j < length ranked → slice_index ranked i ≡ slice_index ranked j → i ≡ j
one_rank ranked distinct i j li lj e =
    elim (cases_lt i j) [
      | inl lt ↦ absurd (true≢false (sym (eq-eqb (slice_index ranked i) (slice_index ranked j) e) ∙ apart_from_distinct nat_eq ranked i j 0 distinct lt lj))
      | inr ge ↦ elim (cases_lt j i) [
        | inl gt ↦ absurd (true≢false (sym (eq-eqb (slice_index ranked j) (slice_index ranked i) (sym e)) ∙ apart_from_distinct nat_eq ranked j i 0 distinct gt li))
        | inr le ↦ omega (arith, ge, le)
      ]
    ]

pub ranked_is : (g : InitGraph) (root : ℕ) (tasks ranked : List ℕ) (edges : List Edge) → AreTasks g root tasks
    → ((k : ℕ) → IsTask g root k → IsWhole g k) → AreRanked g tasks ranked → AreRankEdges g ranked edges → Ranked g root ranked edges
ranked_is g root tasks ranked edges are whole ranks edges_are = record {
  task_at = λ i l. (are.exact (slice_index ranked i)).0
      (Contains-permutation ranked tasks (slice_index ranked i) (IsPermutation-sym tasks ranked ranks.same) (Contains-get_or ranked i 0 l));
  rank_of = λ k t.
      let at = at_from_Contains ranked k (Contains-permutation tasks ranked k ranks.same ((are.exact k).1 t)) in
      (at.0, at.1, at.2 0);
  apart = one_rank ranked (ranked_distinct tasks ranked are.rising ranks.same);
  sorted = ranks.sorted;
  edges_are = edges_are;
  closed = λ k t task. tasks_closed g root k t (whole k task) task;
}

-- a fault of an order of ranks is one of the tasks
pub faults_of_ranks : (g : InitGraph) (root : ℕ) (ranked : List ℕ) (edges : List Edge) → Ranked g root ranked edges → (why : Fault Cycle) → IsFaultOf edges why
    → IsRankFault (length ranked) why × IsOrderFault g root (fault_of_rank ranked why)
faults_of_ranks g root ranked edges r (fault.Bad cycle) least = least_of_ranks r cycle.least least
faults_of_ranks g root ranked edges r fault.OutOfMemory h = (tt, tt)
