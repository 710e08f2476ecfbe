-- Tasks, their order and their faults are one.
use Rattle.std.proofs.Common.{◌≡◌, ◌<◌, ◌≤◌, ◌∙◌, inl, inr, ℕ, zero, suc, true, List, length, get_or, take, Option, Some, None, refl, sym, ap, subst, arith, add-one, true≢false}
use Rattle.std.specs.Cmp.Lexicographic.{slice_cmp, nat_list_cmp_total}
use Rattle.std.specs.List.{Contains, filter}
use Rattle.std.specs.Ordering.{nat_cmp, ordering_then, ordering_reverse, is_le}
use Rattle.std.specs.declared.cmp.Ordering.{Ordering}
use Rattle.std.specs.declared.cmp.Ordering.TheVariants.{Less, Equal, Greater}
use Rattle.std.proofs.lemmas.Bool.{cases_lt}
use Rattle.std.proofs.lemmas.Cmp.{nat_cmp_total}
use Rattle.std.proofs.lemmas.List.{take_all, take_more_same}
use Rattle.std.proofs.lemmas.Map.Lookups.{exact_unsigned}
use Rattle.glk_init.specs.declared.order.InitCycle.{InitCycle}
use Rattle.glk_init.specs.declared.program.InitEdge.{InitEdge}
use Rattle.glk_init.specs.declared.tasks.UndefinedTarget.{UndefinedTarget}
use Rattle.glk_init.specs.Graph.{InitGraph}
use Rattle.glk_init.specs.Order.{IsNotAfter, IsNext, IsOrder, IsInitList, IsLeastOnCycle, has_functions}
use Rattle.glk_init.specs.Tasks.{AreTasks, IsTask, IsFirstUndefined, IsWhole, undefined_edge}
use Rattle.glk_init_laws.specs.Laws.{HaveOwnPositions}
use Rattle.glk_init_laws.proofs.RisingLists.{one_rising}

-- Of two tasks, neither of which is after the other, the positions are equal.

-- neither of two answers is `Greater`
both_equal : (n p : Ordering) → is_le (ordering_then n p) ≡ true → is_le (ordering_then (ordering_reverse n) (ordering_reverse p)) ≡ true → p ≡ Equal
both_equal Less p h k = absurd (true≢false (sym k))
both_equal Equal Less h k = absurd (true≢false (sym k))
both_equal Equal Equal h k = refl
both_equal Equal Greater h k = absurd (true≢false (sym h))
both_equal Greater p h k = absurd (true≢false (sym h))

same_position : (g : InitGraph) (a b : ℕ) → IsNotAfter g a b → IsNotAfter g b a → g.position a ≡ g.position b
same_position g a b h k =
    let n : Ordering = slice_cmp nat_cmp (g.name a) (g.name b) in
    let p : Ordering = nat_cmp (g.position a) (g.position b) in
    let flipped : is_le (ordering_then (ordering_reverse n) (ordering_reverse p)) ≡ true
    = subst (λ (m : Ordering). is_le (ordering_then m (ordering_reverse p)) ≡ true) (nat_list_cmp_total.antisymm (g.name b) (g.name a))
    (subst (λ (q : Ordering). is_le (ordering_then (slice_cmp nat_cmp (g.name b) (g.name a)) q) ≡ true) (nat_cmp_total.antisymm (g.position b) (g.position a)) k) in
    exact_unsigned (g.position a) (g.position b) (both_equal n p h flipped)

-- nothing is not something
abbrev IsNone : Option InitEdge → Type 0
IsNone None = Unit {0}
IsNone (Some e) = ⊥

pub none_is_some : {e : InitEdge} → None ≡ Some e → ⊥
none_is_some h = subst IsNone h tt

module _ (g : InitGraph) (root : ℕ) (own : HaveOwnPositions g root) where
  -- one of two tasks is not after the other, and the other way round
  one_task : (a b : ℕ) → IsTask g root a → IsTask g root b → IsNotAfter g a b → IsNotAfter g b a → a ≡ b
  one_task a b h k to from = own a b h k (same_position g a b to from)

  one_next : (earlier : List ℕ) (a b : ℕ) → IsNext g root earlier a → IsNext g root earlier b → a ≡ b
  one_next earlier a b first second =
      one_task a b first.ready.task second.ready.task (first.least b second.ready) (second.least a first.ready)

  -- after the same tasks the other order goes on too, with the same task
  same_next : (a b : List ℕ) → IsOrder g root a → IsOrder g root b → (n : ℕ) → n < length a → take n a ≡ take n b → (n < length b) × (get_or a n 0 ≡ get_or b n 0)
  same_next a b first second n inside same =
      let next : IsNext g root (take n b) (get_or a n 0) = subst (λ (l : List ℕ). IsNext g root l (get_or a n 0)) same (first.in_order n inside) in
      elim (cases_lt n (length b)) [
        | inl low ↦ (low, one_next (take n b) (get_or a n 0) (get_or b n 0) next (second.in_order n low))
        | inr past ↦ (
            let there : Contains b (get_or a n 0) = second.whole (get_or a n 0) next.ready.task in
            absurd (next.ready.later (subst (λ (l : List ℕ). Contains l (get_or a n 0)) (sym (take_all n b past)) there)))
      ]

  same_front : (a b : List ℕ) → IsOrder g root a → IsOrder g root b → (n : ℕ) → n ≤ length a → (n ≤ length b) × (take n a ≡ take n b)
  same_front a b first second zero low = (omega arith, refl)
  same_front a b first second (suc n) low =
      let front : (n ≤ length b) × (take n a ≡ take n b) = same_front a b first second n (omega arith) in
      let inside : n < length a = omega arith in
      let next : (n < length b) × (get_or a n 0 ≡ get_or b n 0) = same_next a b first second n inside front.1 in
      (omega (arith, next.0), rw add-one at (take_more_same a b n 0 inside next.0 front.1 next.1))

  one_order : (a b : List ℕ) → IsOrder g root a → IsOrder g root b → a ≡ b
  one_order a b first second =
      let there : (length a ≤ length b) × (take (length a) a ≡ take (length a) b) = same_front a b first second (length a) (omega arith) in
      let back : (length b ≤ length a) × (take (length b) b ≡ take (length b) a) = same_front b a second first (length b) (omega arith) in
      sym (take_all (length a) a (omega arith)) ∙ there.1 ∙ take_all (length a) b back.0

  -- what stands for no task is not whole
  not_whole : (u : UndefinedTarget) → IsFirstUndefined g root u → IsWhole g u.task → ⊥
  not_whole u h whole = none_is_some (sym whole ∙ h.edge.1)

pub one_list : (g : InitGraph) (root : ℕ) → HaveOwnPositions g root → (a b : List ℕ) → IsInitList g root a → IsInitList g root b → a ≡ b
one_list g root own a b first second =
    first.2 ∙ ap (filter (has_functions g)) (one_order g root own first.0 second.0 first.1 second.1) ∙ sym second.2

pub one_cycle : (g : InitGraph) (root : ℕ) → HaveOwnPositions g root → (a b : InitCycle) → IsLeastOnCycle g root a → IsLeastOnCycle g root b → a ≡ b
one_cycle g root own a b first second =
    let same : a.task ≡ b.task = one_task g root own a.task b.task first.task second.task
    (first.least b.task second.task second.on_cycle) (second.least a.task first.task first.on_cycle) in
    ap (λ (t : ℕ). record { task = t }) same

pub one_undefined : (g : InitGraph) (root : ℕ) → HaveOwnPositions g root → (a b : UndefinedTarget) → IsFirstUndefined g root a → IsFirstUndefined g root b → a ≡ b
one_undefined g root own a b first second =
    let low : g.position a.task ≤ g.position b.task = first.least b.task second.task (not_whole g root own b second) in
    let high : g.position b.task ≤ g.position a.task = second.least a.task first.task (not_whole g root own a first) in
    let same : a.task ≡ b.task = own a.task b.task first.task second.task (omega (arith, low, high)) in
    let edge : Some first.edge.0 ≡ Some second.edge.0 = sym first.edge.1 ∙ ap (undefined_edge g) same ∙ second.edge.1 in
    let relocation : a.relocation ≡ b.relocation = sym first.edge.2 ∙ ap relocation_of edge ∙ second.edge.2 in
    ap (λ (t : ℕ). record { task = t; relocation = a.relocation }) same ∙ ap (λ (r : ℕ). record { task = b.task; relocation = r }) relocation
  where
    relocation_of : Option InitEdge → ℕ
    relocation_of None = 0
    relocation_of (Some e) = e.relocation

pub one_tasks : (g : InitGraph) (root : ℕ) (a b : List ℕ) → AreTasks g root a → AreTasks g root b → a ≡ b
one_tasks g root a b first second = one_rising (IsTask g root) a b first.rising second.rising first.exact second.exact
