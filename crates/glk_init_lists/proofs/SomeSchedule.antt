-- Each program has a schedule, or a refusal on the way to it.
use Rattle.std.proofs.Common.{◌≡◌, ◌⊎◌, ◌∙◌, ℕ, List, [], Option, Some, None, Ok, Err, inl, inr, refl, sym, subst}
use Rattle.std.specs.Prelude.{Result, ⊤}
use Rattle.glk_cause.specs.Chain.{Finds, finds, clear, IsSomeAt}
use Rattle.glk_cause.specs.declared.cause.Cause.{Cause}
use Rattle.glk_cause.proofs.ChainLaws.{then_some, gives_some, finds_some}
use Rattle.glk_init.specs.declared.order.InitCycle.{InitCycle}
use Rattle.glk_init.specs.declared.program.InitEdge.{InitEdge}
use Rattle.glk_init.specs.declared.tasks.UndefinedTarget.{UndefinedTarget}
use Rattle.glk_init.specs.Graph.{InitGraph}
use Rattle.glk_init_laws.specs.Existence.{AreWhole, HasTasks, HasFirstUndefined, HasListOrCycle, IsAcyclicList}
use Rattle.glk_init.specs.Order.{IsLeastOnCycle}
use Rattle.glk_keys.specs.Programs.{Program}
use Rattle.glk_keys.specs.Rows.{main_init_task, runtime_init_task}
use Rattle.glk_merge.specs.Mergings.{IsSomeKey}
use Rattle.glk_tasks.specs.Laws.{AreAwaitedKeys, AreRootsKeys}
use Rattle.glk_tasks.specs.Lists.{root_key, IsListOf}
use Rattle.glk_tasks.specs.Tasks.{init_graph}
use Rattle.glk_init_lists.specs.Refusals.{undefined_refusal, cycle_refusal, IsUndefinedOf, IsCycleOf, IsUndefinedTask, IsTaskCycle}
use Rattle.glk_init_lists.specs.Schedules.{Scheduled, HasDefinedTasks, HasOrder, IsInitListOf, IsScheduleOf, IsSomeSchedule}

none_is_some : {e : InitEdge} → None ≡ Some e → ⊥
none_is_some h = cc

-- what is handed on is what came, and nothing of it is refused
pub found_clear : {A : Type 0} {R : A → Cause → Type 0} (a b : A) → Finds R a (Ok b) → (a ≡ b) × ((refusal : Cause) → R a refusal → ⊥)
found_clear {A} {R} a b h = go (Ok b) h refl
  where
    go : (answer : Result A Cause) → Finds R a answer → answer ≡ Ok b → (a ≡ b) × ((refusal : Cause) → R a refusal → ⊥)
    go answer (finds refusal is) e = absurd (clash refusal e)
      where
        clash : (c : Cause) → (let r : Result A Cause = Err c in r) ≡ Ok b → ⊥
        clash c same = cc
    go answer (clear none) e = (same a b e, none)
      where
        same : (x y : A) → (let r : Result A Cause = Ok x in r) ≡ Ok y → x ≡ y
        same x y is = cc

-- all that the tasks of a root wait for has a definition
abbrev pub AreWholeOf : InitGraph → Option ℕ → Type 0
AreWholeOf g None = ⊤
AreWholeOf g (Some root) = AreWhole g root

pub whole_none : (g : InitGraph) (root : Option ℕ) (target : UndefinedTarget) → AreWholeOf g root → IsUndefinedOf g root target → ⊥
whole_none g None target whole first = first
whole_none g (Some root) target whole first = none_is_some (sym (whole target.task first.task) ∙ first.edge.1)

pub list_none : (g : InitGraph) (root : Option ℕ) (list : List ℕ) (cycle : InitCycle) → IsListOf g root list → IsCycleOf g root cycle → ⊥
list_none g None list cycle is least = least
list_none g (Some root) list cycle is least = is.no_cycle cycle.task least.task least.on_cycle

module _ (edges : AreAwaitedKeys) (roots : AreRootsKeys) (tasks : HasTasks) (targets : HasFirstUndefined) (orders : HasListOrCycle) where
  module _ (p : Program) where
    target_or_whole : (root : Option ℕ) → IsSomeKey p root → ((target : UndefinedTarget) × IsUndefinedOf (init_graph p) root target) ⊎ AreWholeOf (init_graph p) root
    target_or_whole None key = inr tt
    target_or_whole (Some root) key = let list = tasks (init_graph p) root (edges p) key.row in targets (init_graph p) root list.0 list.1

    list_of : (root : ℕ) → ((cycle : InitCycle) × IsLeastOnCycle (init_graph p) root cycle) ⊎ ((list : List ℕ) × IsAcyclicList (init_graph p) root list)
        → ((cycle : InitCycle) × IsCycleOf (init_graph p) (Some root) cycle) ⊎ ((list : List ℕ) × IsListOf (init_graph p) (Some root) list)
    list_of root (inl cycle) = inl cycle
    list_of root (inr list) = inr (list.0, record { list = list.1.list_is; no_cycle = list.1.no_cycle })

    cycle_or_list : (root : Option ℕ) → IsSomeKey p root → AreWholeOf (init_graph p) root
        → ((cycle : InitCycle) × IsCycleOf (init_graph p) root cycle) ⊎ ((list : List ℕ) × IsListOf (init_graph p) root list)
    cycle_or_list None key whole = inr ([], refl)
    cycle_or_list (Some root) key whole =
        let list = tasks (init_graph p) root (edges p) key.row in
        list_of root (orders (init_graph p) root list.0 (edges p) key.row list.1 whole)

    module _ (root : List ℕ) where
      abbrev IsWholeRoot : Type 0
      IsWholeRoot = AreWholeOf (init_graph p) (root_key p root)

      undefined_by : ((target : UndefinedTarget) × IsUndefinedOf (init_graph p) (root_key p root) target) ⊎ IsWholeRoot
          → ((refusal : Cause) × IsUndefinedTask root p refusal) ⊎ ((refusal : Cause) → IsUndefinedTask root p refusal → ⊥)
      undefined_by (inl (target, first)) = inl (undefined_refusal p target, record { target = target; first = first; refusal_is = refl })
      undefined_by (inr whole) = inr (λ refusal is. whole_none (init_graph p) (root_key p root) is.target whole is.first)

      defined_some : IsSomeAt (HasDefinedTasks root) p
      defined_some = finds_some p (undefined_by (target_or_whole (root_key p root) (roots p root)))

      whole_by : ((refusal : Cause) → IsUndefinedTask root p refusal → ⊥)
          → ((target : UndefinedTarget) × IsUndefinedOf (init_graph p) (root_key p root) target) ⊎ IsWholeRoot → IsWholeRoot
      whole_by none (inl (target, first)) = absurd (none (undefined_refusal p target) (record { target = target; first = first; refusal_is = refl }))
      whole_by none (inr whole) = whole

      are_whole : ((refusal : Cause) → IsUndefinedTask root p refusal → ⊥) → IsWholeRoot
      are_whole none = whole_by none (target_or_whole (root_key p root) (roots p root))

      order_by : ((cycle : InitCycle) × IsCycleOf (init_graph p) (root_key p root) cycle) ⊎ ((list : List ℕ) × IsInitListOf root p list)
          → ((refusal : Cause) × IsTaskCycle root p refusal) ⊎ ((refusal : Cause) → IsTaskCycle root p refusal → ⊥)
      order_by (inl (cycle, least)) = inl (cycle_refusal p cycle, record { cycle = cycle; least = least; refusal_is = refl })
      order_by (inr (list, is)) = inr (λ refusal found. list_none (init_graph p) (root_key p root) list found.cycle is found.least)

      order_some : IsWholeRoot → IsSomeAt (HasOrder root) p
      order_some whole = finds_some p (order_by (cycle_or_list (root_key p root) (roots p root) whole))

      list_by : ((refusal : Cause) → IsTaskCycle root p refusal → ⊥)
          → ((cycle : InitCycle) × IsCycleOf (init_graph p) (root_key p root) cycle) ⊎ ((list : List ℕ) × IsInitListOf root p list) → (list : List ℕ) × IsInitListOf root p list
      list_by none (inl (cycle, least)) = absurd (none (cycle_refusal p cycle) (record { cycle = cycle; least = least; refusal_is = refl }))
      list_by none (inr list) = list

      some_list : IsWholeRoot → ((refusal : Cause) → IsTaskCycle root p refusal → ⊥) → (list : List ℕ) × IsInitListOf root p list
      some_list whole none = list_by none (cycle_or_list (root_key p root) (roots p root) whole)

    -- the lists of both roots
    schedule_of : ((list : List ℕ) × IsInitListOf main_init_task p list) → ((list : List ℕ) × IsInitListOf runtime_init_task p list) → (s : Scheduled) × IsScheduleOf p s
    schedule_of main runtime =
        let s : Scheduled = record { program = p; main = main.0; runtime = runtime.0 } in
        (s, record { program = refl; main = main.1; runtime = runtime.1 })

  abbrev IsWholeIn : List ℕ → Program → Type 0
  IsWholeIn root p = AreWholeOf (init_graph p) (root_key p root)

  -- no task of a root is refused for a cycle
  abbrev HasNoCycle : List ℕ → Program → Type 0
  HasNoCycle root p = (refusal : Cause) → IsTaskCycle root p refusal → ⊥

  pub some_schedule : IsSomeSchedule
  some_schedule p =
      then_some p (defined_some p main_init_task) (λ q main_defined.
      let at_q = found_clear p q main_defined in
      let main_q = subst (IsWholeIn main_init_task) at_q.0 (are_whole p main_init_task at_q.1) in
      then_some q (defined_some q runtime_init_task) (λ r runtime_defined.
      let at_r = found_clear q r runtime_defined in
      let main_r = subst (IsWholeIn main_init_task) at_r.0 main_q in
      let runtime_r = subst (IsWholeIn runtime_init_task) at_r.0 (are_whole q runtime_init_task at_r.1) in
      then_some r (order_some r main_init_task main_r) (λ s main_ordered.
      let at_s = found_clear r s main_ordered in
      let main_s = subst (IsWholeIn main_init_task) at_s.0 main_r in
      let runtime_s = subst (IsWholeIn runtime_init_task) at_s.0 runtime_r in
      let main_apart = subst (HasNoCycle main_init_task) at_s.0 at_s.1 in
      then_some s (order_some s runtime_init_task runtime_s) (λ t runtime_ordered.
      let at_t = found_clear s t runtime_ordered in
      let main_t = subst (IsWholeIn main_init_task) at_t.0 main_s in
      let runtime_t = subst (IsWholeIn runtime_init_task) at_t.0 runtime_s in
      let main_none = subst (HasNoCycle main_init_task) at_t.0 main_apart in
      let runtime_none = subst (HasNoCycle runtime_init_task) at_t.0 at_t.1 in
      gives_some t (schedule_of t (some_list t main_init_task main_t main_none) (some_list t runtime_init_task runtime_t runtime_none))))))
