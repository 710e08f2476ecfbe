-- A root has tasks, and they have an order or a cycle.
use Rattle.std.proofs.Common.{◌≡◌, ◌<◌, ◌≤◌, ◌+◌, ℕ, zero, suc, List, [], ◌∷◌, ◌++◌, length, filter, ◌⊎◌, inl, inr, refl, sym, subst, arith}
use Rattle.std.specs.List.{Contains}
use Rattle.std.proofs.lemmas.Bool.{cases_lt}
use Rattle.std.proofs.lemmas.List.{length-append, take-append-le}
use Rattle.std.proofs.lemmas.List.Elements.{Contains-append_left, Contains-append_right}
use Rattle.std.proofs.Math.Seq.{get_or-append_seam, take-append_seam}
use Rattle.std.proofs.Math.ListN.{get_or-append}
use Rattle.glk_closure.proofs.Derivations.{Contains-cons_cases, Contains-head, Contains-nil}
use Rattle.glk_closure_laws.proofs.Clauses.{in_tail}
use Rattle.glk_init.specs.Graph.{InitGraph}
use Rattle.glk_init.specs.Order.{IsReady, IsNext, InOrder, IsOrder, Walk, IsOnCycle, has_functions}
use Rattle.glk_init.specs.Tasks.{AreTasks, Awaits, IsTask, awaited}
use Rattle.glk_init_laws.specs.Existence.{IsAcyclicList}
use Rattle.glk_init_laws.proofs.Leasts.{Has, IsLeastOf, least_of}
use Rattle.glk_init_laws.proofs.Lists.{Missing, all_in, is_in, lacking, lacks_less}

module _ (g : InitGraph) (root : ℕ) (tasks : List ℕ) (are : AreTasks g root tasks)
    (further : (k t : ℕ) → IsTask g root k → Awaits g k t → IsTask g root t)
    (no_cycle : (k : ℕ) → IsTask g root k → IsOnCycle g k → ⊥) where
  listed : (k : ℕ) → IsTask g root k → Contains tasks k
  listed k h = (are.exact k).1 h

  task : (k : ℕ) → Contains tasks k → IsTask g root k
  task k h = (are.exact k).0 h

  -- A walk back along tasks that are not among the earlier ones comes to a cycle.

  -- each awaits the one before it in the list, where the newest stands first
  abbrev IsTrail : List ℕ → ℕ → List ℕ → Type 0
  IsTrail earlier x [] = IsTask g root x × (Contains earlier x → ⊥)
  IsTrail earlier x (y ∷ ys) = (IsTask g root x × (Contains earlier x → ⊥)) × (Awaits g y x × IsTrail earlier y ys)

  -- a task of the trail waits for the newest, or is it
  along : (earlier : List ℕ) (x : ℕ) (ys : List ℕ) → IsTrail earlier x ys → (w : ℕ) → Contains (x ∷ ys) w → (x ≡ w) ⊎ ((n : ℕ) × Walk g w x n)
  along earlier x [] trail w c = elim (Contains-cons_cases x [] w c) [ inl e ↦ inl e | inr none ↦ absurd (Contains-nil w none) ]
  along earlier x (y ∷ ys) trail w c = elim (Contains-cons_cases x (y ∷ ys) w c) [
    | inl e ↦ inl e
    | inr later ↦ elim (along earlier y ys trail.1.1 w later) [
      | inl e ↦ inr (0, subst (λ v. Awaits g v x) e trail.1.0)
      | inr walk ↦ inr (suc walk.0, (y, walk.1, trail.1.0))
    ]
  ]

  head_of : (earlier : List ℕ) (x : ℕ) (ys : List ℕ) → IsTrail earlier x ys → IsTask g root x × (Contains earlier x → ⊥)
  head_of earlier x [] trail = trail
  head_of earlier x (y ∷ ys) trail = trail.0

  module _ (earlier : List ℕ) (stuck : (k : ℕ) → IsReady g root earlier k → ⊥) where
    -- a task that is missing waits for another that is missing
    next : (k : ℕ) → IsTask g root k → (Contains earlier k → ⊥) → Missing earlier (awaited g k)
    next k is out = elim (all_in earlier (awaited g k)) [
      | inr one ↦ one
      | inl all ↦ absurd (stuck k (record { task = is; later = out; targets = all }))
    ]

    -- the trail goes on to a task that is not in it
    extend : (x : ℕ) (ys : List ℕ) → IsTrail earlier x ys → (t : ℕ) × IsTrail earlier t (x ∷ ys) × (lacking (t ∷ (x ∷ ys)) tasks < lacking (x ∷ ys) tasks)
    extend x ys trail =
        let here = head_of earlier x ys trail in
        let m : Missing earlier (awaited g x) = next x here.0 here.1 in
        let is : IsTask g root m.number = further x m.number here.0 m.of in
        elim (is_in (x ∷ ys) m.number) [
          | inl seen ↦ absurd (elim (along earlier x ys trail m.number seen) [
            | inl e ↦ no_cycle x here.0 (0, subst (λ v. Awaits g x v) (sym e) m.of)
            | inr walk ↦ no_cycle m.number is (suc walk.0, (x, walk.1, m.of))
          ])
          | inr fresh ↦ (
            m.number,
            ((is, m.missing), (m.of, trail)),
            lacks_less (x ∷ ys) (m.number ∷ (x ∷ ys)) tasks m.number (λ y c. in_tail m.number (x ∷ ys) y c) (Contains-head m.number (x ∷ ys)) (listed m.number is) fresh,
          )
        ]

    walk_back : (n x : ℕ) (ys : List ℕ) → lacking (x ∷ ys) tasks ≤ n → IsTrail earlier x ys → ⊥
    walk_back zero x ys low trail = let e = extend x ys trail in omega (arith, low, e.2)
    walk_back (suc n) x ys low trail = let e = extend x ys trail in walk_back n e.0 (x ∷ ys) (omega (arith, low, e.2)) e.1

    -- all tasks are among the earlier ones
    pub none_missing : (k : ℕ) → IsTask g root k → Contains earlier k
    none_missing k is = elim (is_in earlier k) [
      | inl there ↦ there
      | inr out ↦ absurd (walk_back (lacking (k ∷ []) tasks) k [] (omega arith) (is, out))
    ]

  -- The order, task by task.

  ready : (earlier : List ℕ) (k : ℕ) → IsReady g root earlier k ⊎ (IsReady g root earlier k → ⊥)
  ready earlier k = elim (is_in tasks k) [
    | inr fails ↦ inr (λ r. fails (listed k r.task))
    | inl c ↦ elim (is_in earlier k) [
      | inl seen ↦ inr (λ r. r.later seen)
      | inr out ↦ elim (all_in earlier (awaited g k)) [
        | inl all ↦ inl (record { task = task k c; later = out; targets = all })
        | inr m ↦ inr (λ r. m.missing (r.targets m.number m.of))
      ]
    ]
  ]

  in_order_more : (earlier : List ℕ) (k : ℕ) → InOrder g root earlier → IsNext g root earlier k → InOrder g root (earlier ++ (k ∷ []))
  in_order_more earlier k h is i l = elim (cases_lt i (length earlier)) [
    | inl low ↦ rw (take-append-le i earlier (k ∷ []) (omega (arith, low)), get_or-append earlier (k ∷ []) 0 i low) (h i low)
    | inr past ↦ (
        let e : i ≡ length earlier = omega (arith, past, l, length-snoc) in
        rw (e, take-append_seam earlier (k ∷ []), get_or-append_seam earlier k [] 0) is)
  ]
    where
      length-snoc : length (earlier ++ (k ∷ [])) ≡ length earlier + 1
      length-snoc = length-append earlier (k ∷ [])

  lacks : (earlier : List ℕ) (k : ℕ) → IsReady g root earlier k → lacking (earlier ++ (k ∷ [])) tasks < lacking earlier tasks
  lacks earlier k r =
      lacks_less earlier (earlier ++ (k ∷ [])) tasks k (λ y c. Contains-append_left earlier (k ∷ []) y c)
      (Contains-append_right earlier (k ∷ []) k (Contains-head k [])) (listed k r.task) r.later

  next_of : (earlier : List ℕ) → Has g (IsReady g root earlier) tasks
  next_of earlier = least_of g (IsReady g root earlier) (ready earlier) tasks

  is_next : (earlier : List ℕ) (k : ℕ) → IsLeastOf g (IsReady g root earlier) tasks k → IsNext g root earlier k
  is_next earlier k one = record { ready = one.holds; least = λ other r. one.least other (listed other r.task) r }

  is_whole : (earlier : List ℕ) → InOrder g root earlier → ((k : ℕ) → Contains tasks k → IsReady g root earlier k → ⊥) → IsOrder g root earlier
  is_whole earlier h none = record { in_order = h; whole = none_missing earlier (λ k r. none k (listed k r.task) r) }

  build : (n : ℕ) (earlier : List ℕ) → lacking earlier tasks ≤ n → InOrder g root earlier → (list : List ℕ) × IsOrder g root list
  build zero earlier low h = elim (next_of earlier) [
    | inr none ↦ (earlier, is_whole earlier h none)
    | inl one ↦ absurd (omega (arith, low, lacks earlier one.0 one.1.holds))
  ]
  build (suc n) earlier low h = elim (next_of earlier) [
    | inr none ↦ (earlier, is_whole earlier h none)
    | inl one ↦ build n (earlier ++ (one.0 ∷ [])) (omega (arith, low, lacks earlier one.0 one.1.holds)) (in_order_more earlier one.0 h (is_next earlier one.0 one.1))
  ]

  pub some_list : (list : List ℕ) × IsAcyclicList g root list
  some_list =
      let order = build (lacking [] tasks) [] (omega arith) (λ i l. absurd (omega (arith, l))) in
      (filter (has_functions g) order.0, record { list_is = (order.0, order.1, refl); no_cycle = no_cycle })
