-- The search from a task sees what the task reaches.
use Rattle.std.proofs.Common.{◌≡◌, ◌+◌, ◌<◌, ◌≤◌, ◌∙◌, ◌⊎◌, ◌++◌, inl, inr, ℕ, zero, suc, Bool, true, false, not, List, [], ◌∷◌, length, get_or, set, replicate, refl, ap, sym, subst, arith, Option, Some, None}
use Rattle.std.specs.List.{Contains, count_by}
use Rattle.std.proofs.lemmas.Bool.{both_ways, cases_eq, cases_lt}
use Rattle.std.proofs.lemmas.List.{get_or-set_same, get_or-set_other, length-set, length-replicate, length_push, get_or_past}
use Rattle.std.proofs.lemmas.List.Elements.{Contains-append_left, Contains-push, Contains-push_cases}
use Rattle.glk_order.specs.declared.edges.Edge.{Edge}
use Rattle.glk_order.specs.declared.edges.End.TheVariants as end
use Rattle.glk_order.specs.Order.{AreEdgesOf, Needs, Walk, Reaches}
use Rattle.glk_order.specs.Chains.{edge_at, last_edge}
use Rattle.glk_order.specs.Search.{is_seen, left_over, SeesTarget, SeesTargets}
use Rattle.glk_order.proofs.EdgeChains.{IsOnChain, EachBehind, needs_by, each_target, start_chain, start_each, chain_edge, next_chain, next_each}
use Rattle.glk_order.proofs.Orders.{fewer, none_marked}

-- How far the targets of a task are seen.
pub record IsSeeing (edges : List Edge) (task : ℕ) (before now : List Bool) (work_before work_now : List ℕ) (at : Option ℕ) : Type 0 where
  pub size : length now ≡ length before
  pub stays : (other : ℕ) → is_seen before other ≡ true → is_seen now other ≡ true
  pub targets : EachBehind end.Task edges task at (λ e. is_seen now (edge_at edges e).target ≡ true)
  pub new : (other : ℕ) → is_seen now other ≡ true → (is_seen before other ≡ true) ⊎ (Needs edges task other × Contains work_now other)
  pub work_stays : (other : ℕ) → Contains work_before other → Contains work_now other
  pub work_new : (other : ℕ) → Contains work_now other → Contains work_before other ⊎ Needs edges task other
  pub less : left_over now work_now ≤ left_over before work_before
  pub chain : IsOnChain end.Task edges task at

pub start_seeing : (edges : List Edge) (task : ℕ) (seen : List Bool) (work : List ℕ) (at : Option ℕ) → at ≡ last_edge end.Task edges task (length edges) → IsSeeing edges task seen seen work work at
start_seeing edges task seen work at is = record {
  size = refl;
  stays = λ other h. h;
  targets = start_each end.Task edges task at (λ e. is_seen seen (edge_at edges e).target ≡ true) is;
  new = λ other h. inl h;
  work_stays = λ other c. c;
  work_new = λ other c. inl c;
  less = omega arith;
  chain = start_chain end.Task edges task at is;
}

-- the target is seen already
pub see_known : (edges : List Edge) (task : ℕ) (before now : List Bool) (work_before work_now : List ℕ) (at next : Option ℕ) (e target : ℕ)
    → IsSeeing edges task before now work_before work_now at → at ≡ Some e → next ≡ last_edge end.Task edges task e → target ≡ (edge_at edges e).target → is_seen now target ≡ true
    → IsSeeing edges task before now work_before work_now next
see_known edges task before now work_before work_now at next e target h is next_is target_is seen = record {
  size = h.size;
  stays = h.stays;
  targets = next_each end.Task edges task at next e (λ k. is_seen now (edge_at edges k).target ≡ true) is next_is h.targets (subst (λ (t : ℕ). is_seen now t ≡ true) target_is seen);
  new = h.new;
  work_stays = h.work_stays;
  work_new = h.work_new;
  less = h.less;
  chain = next_chain end.Task edges task at next e h.chain is next_is;
}

-- the target is seen now
pub see_new : (edges : List Edge) (task : ℕ) (before now later : List Bool) (work_before work_now work_later : List ℕ) (at next : Option ℕ) (e target : ℕ)
    → IsSeeing edges task before now work_before work_now at → at ≡ Some e → next ≡ last_edge end.Task edges task e → target ≡ (edge_at edges e).target → target < length now → is_seen now target ≡ false
    → later ≡ set now target true → work_later ≡ work_now ++ target ∷ []
    → IsSeeing edges task before later work_before work_later next
see_new edges task before now later work_before work_now work_later at next e target h is next_is target_is inside unseen later_is work_is =
    let found = chain_edge end.Task edges task at e h.chain is in
    let need : Needs edges task target = needs_by edges e task target found.0 found.1 (sym target_is) in
    let here : is_seen later target ≡ true = ap (λ (l : List Bool). get_or l target false) later_is ∙ get_or-set_same now target true false inside in
    let others : (t : ℕ) → (t ≡ target → ⊥) → is_seen later t ≡ is_seen now t = λ t other. ap (λ (l : List Bool). get_or l t false) later_is ∙ get_or-set_other now target t true false other in
    let stays : (t : ℕ) → is_seen now t ≡ true → is_seen later t ≡ true = λ t seen. others t (λ same. both_ways (is_seen now target) unseen (subst (λ (k : ℕ). is_seen now k ≡ true) same seen)) ∙ seen in
    let pushed : Contains work_later target = subst (λ (l : List ℕ). Contains l target) (sym work_is) (Contains-push work_now target) in
    let keeps : (t : ℕ) → Contains work_now t → Contains work_later t = λ t c. subst (λ (l : List ℕ). Contains l t) (sym work_is) (Contains-append_left work_now (target ∷ []) t c) in
    record {
      size = ap length later_is ∙ length-set now target true ∙ h.size;
      stays = λ other seen. stays other (h.stays other seen);
      targets = next_each end.Task edges task at next e (λ k. is_seen later (edge_at edges k).target ≡ true) is next_is
          (λ k low high same. stays (edge_at edges k).target (h.targets k low high same)) (subst (λ (t : ℕ). is_seen later t ≡ true) target_is here);
      new = λ other seen. elim (cases_eq other target) [
        | inl same ↦ inr (subst (Needs edges task) (sym same) need, subst (Contains work_later) (sym same) pushed)
        | inr apart ↦ elim (h.new other (sym (others other apart) ∙ seen)) [
          | inl old ↦ inl old
          | inr new ↦ inr (new.0, keeps other new.1)
        ]
      ];
      work_stays = λ other c. keeps other (h.work_stays other c);
      work_new = λ other c. elim (Contains-push_cases work_now target other (subst (λ (l : List ℕ). Contains l other) work_is c)) [
        | inl old ↦ h.work_new other old
        | inr same ↦ inr (subst (Needs edges task) same need)
      ];
      less =
          let f = fewer now target inside unseen in
          let one : count_by not later ≡ count_by not (set now target true) = ap (λ (l : List Bool). count_by not l) later_is in
          let long : length work_later ≡ length work_now + 1 = ap length work_is ∙ length_push work_now target in
          let before_less = h.less in
          omega (arith, f, one, long, before_less);
      chain = next_chain end.Task edges task at next e h.chain is next_is;
    }

-- by either way
pub see_more : (edges : List Edge) (task : ℕ) (before now later : List Bool) (work_before work_now work_later : List ℕ) (at next : Option ℕ) (e target : ℕ)
    → IsSeeing edges task before now work_before work_now at → at ≡ Some e → next ≡ last_edge end.Task edges task e → target ≡ (edge_at edges e).target → target < length now
    → SeesTarget target now later work_now work_later → IsSeeing edges task before later work_before work_later next
see_more edges task before now later work_before work_now work_later at next e target h is next_is target_is inside (inl known) =
    let same : IsSeeing edges task before now work_before work_now next = see_known edges task before now work_before work_now at next e target h is next_is target_is known.seen in
    let named : IsSeeing edges task before later work_before work_now next = subst (λ (l : List Bool). IsSeeing edges task before l work_before work_now next) (sym known.stays) same in
    subst (λ (l : List ℕ). IsSeeing edges task before later work_before l next) (sym known.work_stays) named
see_more edges task before now later work_before work_now work_later at next e target h is next_is target_is inside (inr new) =
    see_new edges task before now later work_before work_now work_later at next e target h is next_is target_is inside new.unseen new.now_is new.work_is

pub end_seeing : (edges : List Edge) (task : ℕ) (before now : List Bool) (work_before work_now : List ℕ) (at : Option ℕ)
    → IsSeeing edges task before now work_before work_now at → at ≡ None → SeesTargets edges task before now work_before work_now
end_seeing edges task before now work_before work_now at h is = record {
  size = h.size;
  stays = h.stays;
  targets = each_target edges task at (λ t. is_seen now t ≡ true) h.targets is;
  new = h.new;
  work_stays = h.work_stays;
  work_new = h.work_new;
  less = h.less;
}

-- How far a search from a task has come.
pub record IsSearching (edges : List Edge) (count start : ℕ) (seen : List Bool) (work : List ℕ) : Type 0 where
  pub size : length seen ≡ count
  pub sound : (other : ℕ) → is_seen seen other ≡ true → Reaches edges start other
  pub work_seen : (other : ℕ) → Contains work other → is_seen seen other ≡ true
  pub closed : (other : ℕ) → is_seen seen other ≡ true → Contains work other ⊎ ((target : ℕ) → Needs edges other target → is_seen seen target ≡ true)
  pub first : (target : ℕ) → Needs edges start target → is_seen seen target ≡ true

pub start_searching : (edges : List Edge) (count start : ℕ) (none now : List Bool) (work_none work : List ℕ) → none ≡ replicate count false → work_none ≡ []
    → SeesTargets edges start none now work_none work → IsSearching edges count start now work
start_searching edges count start none now work_none work none_is work_is s =
    let unseen : (t : ℕ) → is_seen none t ≡ true → ⊥ = λ t seen. both_ways (is_seen none t) (ap (λ (l : List Bool). get_or l t false) none_is ∙ none_marked count t) seen in
    let empty : length work_none ≡ 0 = ap length work_is in
    record {
      size = s.size ∙ ap length none_is ∙ length-replicate count false;
      sound = λ other seen. elim (s.new other seen) [ inl old ↦ absurd (unseen other old) | inr new ↦ (zero, new.0) ];
      work_seen = λ other c. elim (s.work_new other c) [ inl old ↦ absurd (omega (arith, empty, old.1)) | inr need ↦ s.targets other need ];
      closed = λ other seen. elim (s.new other seen) [ inl old ↦ absurd (unseen other old) | inr new ↦ inl new.1 ];
      first = s.targets;
    }

-- the search goes on from a task that was left
pub more_searching : (edges : List Edge) (count start next : ℕ) (seen now : List Bool) (work rest work_now : List ℕ)
    → IsSearching edges count start seen work → work ≡ rest ++ next ∷ [] → SeesTargets edges next seen now rest work_now → IsSearching edges count start now work_now
more_searching edges count start next seen now work rest work_now h work_is s =
    let there : Contains work next = subst (λ (l : List ℕ). Contains l next) (sym work_is) (Contains-push rest next) in
    let reached : Reaches edges start next = h.sound next (h.work_seen next there) in
    let further : (t : ℕ) → Needs edges next t → Reaches edges start t = λ t need. (suc reached.0, (next, reached.1, need)) in
    record {
      size = s.size ∙ h.size;
      sound = λ other seen_now. elim (s.new other seen_now) [ inl old ↦ h.sound other old | inr new ↦ further other new.0 ];
      work_seen = λ other c. elim (s.work_new other c) [
        | inl old ↦ s.stays other (h.work_seen other (subst (λ (l : List ℕ). Contains l other) (sym work_is) (Contains-append_left rest (next ∷ []) other old)))
        | inr need ↦ s.targets other need
      ];
      closed = λ other seen_now. elim (s.new other seen_now) [
        | inl old ↦ elim (h.closed other old) [
          | inl left ↦ elim (Contains-push_cases rest next other (subst (λ (l : List ℕ). Contains l other) work_is left)) [
            | inl still ↦ inl (s.work_stays other still)
            | inr same ↦ inr (λ target need. s.targets target (subst (λ (t : ℕ). Needs edges t target) (sym same) need))
          ]
          | inr all ↦ inr (λ target need. s.stays target (all target need))
        ]
        | inr new ↦ inl new.1
      ];
      first = λ target need. s.stays target (h.first target need);
    }

-- nothing is left: what the task reaches is seen
all_seen : (edges : List Edge) (count start : ℕ) (seen : List Bool) (work : List ℕ) → IsSearching edges count start seen work → length work ≡ 0 → (n other : ℕ) → Walk edges start other n → is_seen seen other ≡ true
all_seen edges count start seen work h empty zero other walk = h.first other walk
all_seen edges count start seen work h empty (suc n) other walk = elim (h.closed walk.0 (all_seen edges count start seen work h empty n walk.0 walk.1)) [
  | inl left ↦ absurd (omega (arith, empty, left.1))
  | inr all ↦ all other walk.2
]

pub end_searching : (edges : List Edge) (count start : ℕ) (seen : List Bool) (work : List ℕ) → IsSearching edges count start seen work → length work ≡ 0 → (other : ℕ)
    → (is_seen seen other ≡ true → Reaches edges start other) × (Reaches edges start other → is_seen seen other ≡ true)
end_searching edges count start seen work h empty other = (h.sound other, λ r. all_seen edges count start seen work h empty r.0 other r.1)

-- the ends of an edge are tasks
need_inside : (count : ℕ) (edges : List Edge) (from to : ℕ) → AreEdgesOf count edges → Needs edges from to → to < count
need_inside count edges from to inside need =
    let e : Edge = record { task = from; target = to } in
    let both : ((get_or edges need.0 e).task < count) × ((get_or edges need.0 e).target < count) = inside need.0 e need.1 in
    subst (λ (x : Edge). x.target < count) need.2 both.1

-- what is seen is a task
pub seen_inside : (seen : List Bool) (t : ℕ) → is_seen seen t ≡ true → t < length seen
seen_inside seen t h = elim (cases_lt t (length seen)) [
  | inl low ↦ low
  | inr past ↦ absurd (both_ways (is_seen seen t) (get_or_past seen t false past) h)
]

-- a task that another one reaches is the target of an edge
pub reached_inside : (count : ℕ) (edges : List Edge) (from to : ℕ) → AreEdgesOf count edges → Reaches edges from to → to < count
reached_inside count edges from to inside (zero, walk) = need_inside count edges from to inside walk
reached_inside count edges from to inside (suc n, walk) = need_inside count edges walk.0 to inside walk.2
