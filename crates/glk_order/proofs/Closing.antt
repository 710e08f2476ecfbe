-- A task is listed: the edges that lead to it are closed one after the other.
use Rattle.std.proofs.Common.{◌≡◌, ◌+◌, ◌-◌, ◌<◌, ◌∙◌, ◌⊎◌, ◌&&◌, ◌||◌, ◌++◌, inl, inr, ℕ, Bool, true, false, List, [], ◌∷◌, length, get_or, set, replicate, refl, ap, sym, subst, arith, eqb, Option, Some, None}
use Rattle.std.specs.List.{list_any}
use Rattle.std.specs.BTreeSet.{BTreeSet, IsLowerBound, Updates}
use Rattle.std.specs.BTreeMap.{is_at}
use Rattle.std.specs.Ordering.{nat_cmp}
use Rattle.std.proofs.lemmas.Bool.{eqb-true, eq-eqb, ne_eqb, both_ways, cases_eq, cases_Bool, false≢true}
use Rattle.std.proofs.lemmas.Bool.Decides.{nat_tests}
use Rattle.std.proofs.lemmas.List.{get_or-set_same, get_or-set_other, length-set, length-replicate}
use Rattle.std.proofs.lemmas.Map.Keys.{le_from_not_gt}
use Rattle.glk_order.specs.declared.edges.Edge.{Edge}
use Rattle.glk_order.specs.declared.edges.End.TheVariants as end
use Rattle.glk_order.specs.Order.{IsNext, InOrder}
use Rattle.glk_order.specs.Chains.{edge_at, last_edge}
use Rattle.glk_order.specs.Progress.{is_listed, is_in, open_count, AreOpen, AreClosed, AreReady, ClosesEdge, AreMarks, IsStuck}
use Rattle.glk_order.proofs.EdgeChains.{bound_of, IsOnChain, start_chain, chain_edge, next_chain}
use Rattle.glk_order.proofs.Counts.{one_if, split_count, split_step, split_chain, split_all, split_none, none_open, open_none}
use Rattle.glk_order.proofs.Orders.{InOrder-push, AreMarks-push, AreMarks-start, none_marked, ready_listed}

pub or_cases : (x y : Bool) → (x || y) ≡ true → (x ≡ true) ⊎ (y ≡ true)
or_cases true y h = inl refl
or_cases false y h = inr h

pub and_both : (x y : Bool) → (x && y) ≡ true → (x ≡ true) × (y ≡ true)
and_both true y h = (refl, h)
and_both false y h = absurd (false≢true h)

-- How far the edges to a task are closed.
pub record IsClosing (count : ℕ) (edges : List Edge) (task : ℕ) (before : List Bool) (open_edges : List ℕ) (ready : BTreeSet ℕ) (at : Option ℕ) : Type 0 where
  pub size : length open_edges ≡ count
  pub each : (t : ℕ) → t < count → get_or open_edges t 0 ≡ split_count before (set before task true) edges (bound_of at) t
  pub closed : AreClosed (set before task true) open_edges
  pub is_ready : AreReady count (set before task true) open_edges ready
  pub chain : IsOnChain end.Target edges task at

pub start_closing : (count : ℕ) (edges : List Edge) (task : ℕ) (before : List Bool) (open_edges : List ℕ) (ready : BTreeSet ℕ) (at : Option ℕ)
    → task < length before → is_listed before task ≡ false → get_or open_edges task 0 ≡ 0 → AreOpen count edges before open_edges → AreClosed before open_edges
    → AreReady count (set before task true) open_edges ready → at ≡ last_edge end.Target edges task (length edges)
    → IsClosing count edges task before open_edges ready at
start_closing count edges task before open_edges ready at inside unlisted none counts closed fit is = record {
  size = counts.size;
  each = λ t within.
      let bound : bound_of (last_edge end.Target edges task (length edges)) ≡ bound_of at = ap bound_of (sym is) in
      counts.each t within ∙ sym (split_all before (set before task true) edges t) ∙ split_chain before task edges (length edges) t inside unlisted (omega arith)
      ∙ ap (λ n. split_count before (set before task true) edges n t) bound;
  closed = λ t marked. elim (cases_eq t task) [
    | inl same ↦ subst (λ (k : ℕ). get_or open_edges k 0 ≡ 0) (sym same) none
    | inr other ↦ closed t (sym (get_or-set_other before task t true false other) ∙ marked)
  ];
  is_ready = fit;
  chain = start_chain end.Target edges task at is;
}

-- at an edge of the chain: its task has one open edge more than behind it, and no other task has
at_edge : (count : ℕ) (edges : List Edge) (task : ℕ) (before : List Bool) (open_edges : List ℕ) (ready : BTreeSet ℕ) (at : Option ℕ) (e : ℕ)
    → IsClosing count edges task before open_edges ready at → at ≡ Some e → task < length before → is_listed before task ≡ false → (t : ℕ) → t < count
    → get_or open_edges t 0 ≡ split_count before (set before task true) edges e t + one_if (eqb (edge_at edges e).task t)
at_edge count edges task before open_edges ready at e h is inside unlisted t within =
    let found = chain_edge end.Target edges task at e h.chain is in
    let step = split_step before task edges e t inside unlisted found.0 in
    let here : eqb (edge_at edges e).target task ≡ true = eq-eqb _ _ found.1 in
    let one : one_if (eqb (edge_at edges e).target task && eqb (edge_at edges e).task t) ≡ one_if (eqb (edge_at edges e).task t) = ap (λ b. one_if (b && eqb (edge_at edges e).task t)) here in
    let bound : bound_of at ≡ e + 1 = ap bound_of is in
    let was : get_or open_edges t 0 ≡ split_count before (set before task true) edges (e + 1) t = h.each t within ∙ ap (λ n. split_count before (set before task true) edges n t) bound in
    omega (arith, was, step, one)

pub some_open : (count : ℕ) (edges : List Edge) (task : ℕ) (before : List Bool) (open_edges : List ℕ) (ready : BTreeSet ℕ) (at : Option ℕ) (e user : ℕ)
    → IsClosing count edges task before open_edges ready at → at ≡ Some e → task < length before → is_listed before task ≡ false → user ≡ (edge_at edges e).task → user < count → 0 < get_or open_edges user 0
some_open count edges task before open_edges ready at e user h is inside unlisted user_is within =
    let was = at_edge count edges task before open_edges ready at e h is inside unlisted user within in
    let one : one_if (eqb (edge_at edges e).task user) ≡ 1 = ap one_if (eq-eqb _ _ (sym user_is)) in
    omega (arith, was, one)

-- the edge is closed
pub close_more : (count : ℕ) (edges : List Edge) (task : ℕ) (before : List Bool) (open_before open_now : List ℕ) (ready_before ready_now : BTreeSet ℕ) (at next : Option ℕ) (e user : ℕ)
    → IsClosing count edges task before open_before ready_before at → at ≡ Some e → next ≡ last_edge end.Target edges task e → task < length before → is_listed before task ≡ false
    → user ≡ (edge_at edges e).task → user < count → ClosesEdge user open_before open_now ready_before ready_now
    → IsClosing count edges task before open_now ready_now next
close_more count edges task before open_before open_now ready_before ready_now at next e user h is next_is inside unlisted user_is within closes =
    let some : 0 < get_or open_before user 0 = some_open count edges task before open_before ready_before at e user h is inside unlisted user_is within in
    let size : length open_before ≡ count = h.size in
    let same : get_or open_now user 0 ≡ get_or open_before user 0 - 1 = ap (λ (l : List ℕ). get_or l user 0) closes.lower ∙ get_or-set_same open_before user (get_or open_before user 0 - 1) 0 (omega (arith, size)) in
    let others : (t : ℕ) → (t ≡ user → ⊥) → get_or open_now t 0 ≡ get_or open_before t 0 = λ t other. ap (λ (l : List ℕ). get_or l t 0) closes.lower ∙ get_or-set_other open_before user t (get_or open_before user 0 - 1) 0 other in
    let user_unlisted : is_listed (set before task true) user ≡ false = elim (cases_Bool (is_listed (set before task true) user)) [
      | inl marked ↦ (let none = h.closed user marked in absurd (omega (arith, some, none)))
      | inr no_ ↦ no_
    ] in
    let in_now : (t : ℕ) → is_in ready_now t ≡ true → (is_in ready_before t ≡ true) ⊎ ((t ≡ user) × (get_or open_before user 0 ≡ 1)) = λ t there.
    elim (or_cases (is_in ready_before t) (eqb t user && eqb (get_or open_before user 0) 1) (sym (closes.others t) ∙ there)) [
      | inl old ↦ inl old
      | inr new ↦ (let both = and_both (eqb t user) (eqb (get_or open_before user 0) 1) new in inr (eqb-true _ _ both.0, eqb-true _ _ both.1))
    ] in
    let old_other : (t : ℕ) → is_in ready_before t ≡ true → t ≡ user → ⊥ = λ t there equal.
    let none : get_or open_before t 0 ≡ 0 = h.is_ready.closed t there in
    let none_too : get_or open_before user 0 ≡ 0 = subst (λ (k : ℕ). get_or open_before k 0 ≡ 0) equal none in
    omega (arith, some, none_too) in
    record {
      size = ap length closes.lower ∙ length-set open_before user (get_or open_before user 0 - 1) ∙ size;
      each = λ t low.
          let was = at_edge count edges task before open_before ready_before at e h is inside unlisted t low in
          let chain : split_count before (set before task true) edges e t ≡ split_count before (set before task true) edges (bound_of next) t =
          split_chain before task edges e t inside unlisted (let f = chain_edge end.Target edges task at e h.chain is in omega (arith, f.0)) ∙ ap (λ o. split_count before (set before task true) edges (bound_of o) t) (sym next_is) in
          elim (cases_eq t user) [
            | inl equal ↦ (
                let one : one_if (eqb (edge_at edges e).task t) ≡ 1 = ap one_if (eq-eqb _ _ (sym user_is ∙ sym equal)) in
                let now : get_or open_now t 0 ≡ get_or open_before t 0 - 1 = subst (λ (k : ℕ). get_or open_now k 0 ≡ get_or open_before k 0 - 1) (sym equal) same in
                omega (arith, was, one, now) ∙ chain)
            | inr other ↦ (
                let none : one_if (eqb (edge_at edges e).task t) ≡ 0 = ap one_if (ne_eqb _ _ (λ k. other (sym k ∙ sym user_is))) in
                let now : get_or open_now t 0 ≡ get_or open_before t 0 = others t other in
                omega (arith, was, none, now) ∙ chain)
          ];
      closed = λ t marked. elim (cases_eq t user) [
        | inl equal ↦ absurd (both_ways (is_listed (set before task true) user) user_unlisted (subst (λ (k : ℕ). is_listed (set before task true) k ≡ true) equal marked))
        | inr other ↦ others t other ∙ h.closed t marked
      ];
      is_ready = record {
        inside = λ t there. elim (in_now t there) [ inl old ↦ h.is_ready.inside t old | inr new ↦ (let equal = new.0 in omega (arith, equal)) ];
        unlisted = λ t there. elim (in_now t there) [
          | inl old ↦ h.is_ready.unlisted t old
          | inr new ↦ subst (λ (k : ℕ). is_listed (set before task true) k ≡ false) (sym new.0) user_unlisted
        ];
        closed = λ t there. elim (in_now t there) [
          | inl old ↦ others t (old_other t old) ∙ h.is_ready.closed t old
          | inr new ↦ (
              let last = new.1 in
              let zero_ : get_or open_now user 0 ≡ 0 = omega (arith, same, last) in
              subst (λ (k : ℕ). get_or open_now k 0 ≡ 0) (sym new.0) zero_)
        ];
        each = λ t low no_ none. closes.others t ∙ elim (cases_eq t user) [
          | inl equal ↦ (
              let zero_ : get_or open_now user 0 ≡ 0 = subst (λ (k : ℕ). get_or open_now k 0 ≡ 0) equal none in
              let last : get_or open_before user 0 ≡ 1 = omega (arith, same, some, zero_) in
              right (is_in ready_before t) (eqb t user) (eqb (get_or open_before user 0) 1) (eq-eqb _ _ equal) (eq-eqb _ _ last))
          | inr other ↦ left (is_in ready_before t) (eqb t user && eqb (get_or open_before user 0) 1) (h.is_ready.each t low no_ (sym (others t other) ∙ none))
        ];
      };
      chain = next_chain end.Target edges task at next e h.chain is next_is;
    }
  where
    left : (x y : Bool) → x ≡ true → (x || y) ≡ true
    left true y h = refl
    left false y h = absurd (false≢true h)

    right : (x y z : Bool) → y ≡ true → z ≡ true → (x || (y && z)) ≡ true
    right true y z a b = refl
    right false y z a b = rw (a, b) refl

-- all are closed
pub end_closing : (count : ℕ) (edges : List Edge) (task : ℕ) (before : List Bool) (open_edges : List ℕ) (ready : BTreeSet ℕ) (at : Option ℕ)
    → IsClosing count edges task before open_edges ready at → at ≡ None → AreOpen count edges (set before task true) open_edges
end_closing count edges task before open_edges ready at h is = record {
  size = h.size;
  each = λ t low. h.each t low ∙ ap (λ o. split_count before (set before task true) edges (bound_of o) t) is ∙ split_none before (set before task true) edges t;
}

-- How far the list has come.
pub record IsListing (count : ℕ) (edges : List Edge) (list : List ℕ) (marks : List Bool) (open_edges : List ℕ) (ready : BTreeSet ℕ) : Type 0 where
  pub size : length marks ≡ count
  pub counts : AreOpen count edges marks open_edges
  pub closed : AreClosed marks open_edges
  pub is_ready : AreReady count marks open_edges ready
  pub order : InOrder count edges list
  pub marked : AreMarks marks list

pub start_listing : (count : ℕ) (edges : List Edge) (list : List ℕ) (marks : List Bool) (open_edges : List ℕ) (ready : BTreeSet ℕ)
    → marks ≡ replicate count false → list ≡ []
    → ((listed : List Bool) → ((t : ℕ) → is_listed listed t ≡ false) → AreOpen count edges listed open_edges)
    → ((listed : List Bool) → ((t : ℕ) → is_listed listed t ≡ false) → AreReady count listed open_edges ready)
    → IsListing count edges list marks open_edges ready
start_listing count edges list marks open_edges ready marks_are empty counts fit =
    let none : (t : ℕ) → is_listed marks t ≡ false = λ t. ap (λ (l : List Bool). get_or l t false) marks_are ∙ none_marked count t in
    let no_place : length list ≡ 0 = ap length empty in
    record {
      size = ap length marks_are ∙ length-replicate count false;
      counts = counts marks none;
      closed = λ t marked. absurd (both_ways (is_listed marks t) (none t) marked);
      is_ready = fit marks none;
      order = λ i inside. absurd (omega (arith, no_place));
      marked = subst (λ (l : List Bool). AreMarks l list) (sym marks_are) (AreMarks-start count list empty);
    }

-- the task that is taken from the set
pub record IsTaken (before now : BTreeSet ℕ) (task : ℕ) : Type 0 where
  pub member : is_in before task ≡ true
  pub least : IsLowerBound nat_cmp before task
  pub updates : Updates nat_cmp before now task false

pub not_at : (task other : ℕ) → (other ≡ task → ⊥) → is_at (nat_cmp task) other ≡ false
not_at task other apart = grind (arith, nat_tests, apart)

pub is_next : (count : ℕ) (edges : List Edge) (list : List ℕ) (marks : List Bool) (open_edges : List ℕ) (before now : BTreeSet ℕ) (task : ℕ)
    → IsListing count edges list marks open_edges before → IsTaken before now task → IsNext count edges list task
is_next count edges list marks open_edges before now task h taken =
    let inside = h.is_ready.inside task taken.member in
    record {
      ready = ready_listed count edges marks list task h.marked inside (h.is_ready.unlisted task taken.member)
          (none_open marks edges task (sym (h.counts.each task inside) ∙ h.is_ready.closed task taken.member));
      least = λ other r.
          let unlisted : is_listed marks other ≡ false = elim (cases_Bool (is_listed marks other)) [ inl yes_ ↦ absurd (r.later (h.marked.contained other yes_)) | inr no_ ↦ no_ ] in
          let none : open_count marks edges other ≡ 0 = open_none marks edges other (λ u need. h.marked.marked u (r.targets u need)) in
          let there : is_in before other ≡ true = h.is_ready.each other r.inside unlisted (h.counts.each other r.inside ∙ none) in
          le_from_not_gt task other (taken.least other there);
    }

pub ready_taken : (count : ℕ) (edges : List Edge) (list : List ℕ) (marks : List Bool) (open_edges : List ℕ) (before now : BTreeSet ℕ) (task : ℕ)
    → IsListing count edges list marks open_edges before → IsTaken before now task → AreReady count (set marks task true) open_edges now
ready_taken count edges list marks open_edges before now task h taken =
    let inside : task < count = h.is_ready.inside task taken.member in
    let size : length marks ≡ count = h.size in
    let gone : is_in now task ≡ false = taken.updates.1 in
    let others : (t : ℕ) → (t ≡ task → ⊥) → is_in now t ≡ is_in before t = λ t other. taken.updates.2 t (not_at task t other) in
    let apart : (t : ℕ) → is_in now t ≡ true → t ≡ task → ⊥ = λ t there same. both_ways (is_in now task) gone (subst (λ (k : ℕ). is_in now k ≡ true) same there) in
    let was : (t : ℕ) → is_in now t ≡ true → is_in before t ≡ true = λ t there. sym (others t (apart t there)) ∙ there in
    record {
      inside = λ t there. h.is_ready.inside t (was t there);
      unlisted = λ t there. get_or-set_other marks task t true false (apart t there) ∙ h.is_ready.unlisted t (was t there);
      closed = λ t there. h.is_ready.closed t (was t there);
      each = λ t low no_ none. elim (cases_eq t task) [
        | inl same ↦ absurd (both_ways (is_listed (set marks task true) t) no_ (subst (λ (k : ℕ). is_listed (set marks task true) k ≡ true) (sym same) (get_or-set_same marks task true false (omega (arith, size)))))
        | inr other ↦ others t other ∙ h.is_ready.each t low (sym (get_or-set_other marks task t true false other) ∙ no_) none
      ];
    }

pub more_listing : (count : ℕ) (edges : List Edge) (list list_now : List ℕ) (marks marks_now : List Bool) (open_edges open_now : List ℕ) (before now after : BTreeSet ℕ) (task : ℕ)
    → IsListing count edges list marks open_edges before → IsTaken before now task → list_now ≡ list ++ task ∷ [] → marks_now ≡ set marks task true
    → AreOpen count edges marks_now open_now → AreClosed marks_now open_now → AreReady count marks_now open_now after
    → IsListing count edges list_now marks_now open_now after
more_listing count edges list list_now marks marks_now open_edges open_now before now after task h taken list_is marks_are counts closed fit =
    let inside : task < count = h.is_ready.inside task taken.member in
    let size : length marks ≡ count = h.size in
    let marked : AreMarks (set marks task true) (list ++ task ∷ []) = AreMarks-push marks list task (omega (arith, size)) h.marked in
    let named : AreMarks marks_now (list ++ task ∷ []) = subst (λ (l : List Bool). AreMarks l (list ++ task ∷ [])) (sym marks_are) marked in
    record {
      size = ap length marks_are ∙ length-set marks task true ∙ size;
      counts = counts;
      closed = closed;
      is_ready = fit;
      order = subst (InOrder count edges) (sym list_is) (InOrder-push count edges list task h.order (is_next count edges list marks open_edges before now task h taken));
      marked = subst (AreMarks marks_now) (sym list_is) named;
    }

-- the same where the tasks and edges are those of the chains
pub chained_listing : (tasks count : ℕ) (chained edges : List Edge) (list list_now : List ℕ) (marks marks_now : List Bool) (open_edges open_now : List ℕ) (before now after : BTreeSet ℕ) (task : ℕ)
    → tasks ≡ count → chained ≡ edges → IsListing count edges list marks open_edges before → IsTaken before now task → list_now ≡ list ++ task ∷ [] → marks_now ≡ set marks task true
    → AreOpen tasks chained marks_now open_now → AreClosed marks_now open_now → AreReady tasks marks_now open_now after
    → IsListing count edges list_now marks_now open_now after
chained_listing tasks count chained edges list list_now marks marks_now open_edges open_now before now after task tasks_are edges_are h taken list_is marks_are counts closed fit =
    let by_count : AreOpen count chained marks_now open_now = subst (λ n. AreOpen n chained marks_now open_now) tasks_are counts in
    let by_edges : AreOpen count edges marks_now open_now = subst (λ (es : List Edge). AreOpen count es marks_now open_now) edges_are by_count in
    more_listing count edges list list_now marks marks_now open_edges open_now before now after task h taken list_is marks_are by_edges closed (subst (λ n. AreReady n marks_now open_now after) tasks_are fit)

none_in : (keys : List ℕ) (task : ℕ) → length keys ≡ 0 → list_any (is_at (nat_cmp task)) keys ≡ true → ⊥
none_in [] task none there = false≢true there
none_in (k ∷ keys) task none there = omega (arith, none)

-- no task is ready
pub stuck : (count : ℕ) (edges : List Edge) (list : List ℕ) (marks : List Bool) (open_edges : List ℕ) (ready : BTreeSet ℕ) → IsListing count edges list marks open_edges ready → length ready.keys ≡ 0 → IsStuck count edges marks
stuck count edges list marks open_edges ready h empty = λ task inside unlisted all.
    none_in ready.keys task empty (h.is_ready.each task inside unlisted (h.counts.each task inside ∙ open_none marks edges task all))
