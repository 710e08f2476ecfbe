-- What tasks and their order are as steps of a link.
use Rattle.std.proofs.Common.{◌≡◌, ◌<◌, ◌∙◌, ℕ, List, Option, Some, None, Ok, Err, refl, sym, subst, length}
use Rattle.std.specs.Prelude.{Result, IfSome}
use Rattle.std.specs.declared.alloc.Global.{Global}
use Rattle.std.specs.declared.vec.Vec.{Vec}
use Rattle.glk_base.specs.declared.fault.Fault.{Fault}
use Rattle.glk_base.specs.declared.fault.Fault.TheVariants as fault
use Rattle.glk_cause.specs.Chain.{finds, clear, gives, Then, Gives, Answers}
use Rattle.glk_cause.specs.Sorts.{sort_of, of_link}
use Rattle.glk_cause.specs.declared.cause.Cause.{Cause}
use Rattle.glk_cause.proofs.ChainLaws.{then_only, gives_only, finds_only, then_given, gives_given, finds_given, stopped, went_on, RefusesOnly}
use Rattle.glk_init.specs.declared.order.InitCycle.{InitCycle}
use Rattle.glk_init.specs.declared.tasks.UndefinedTarget.{UndefinedTarget}
use Rattle.glk_init.specs.Graph.{InitGraph}
use Rattle.glk_keys.specs.Programs.{Program}
use Rattle.glk_keys.specs.Relocations.{relocs_of}
use Rattle.glk_keys.specs.Rows.{main_init_task, runtime_init_task}
use Rattle.glk_merge.specs.Mergings.{IsKey, IsSomeKey}
use Rattle.glk_reach.specs.Chosen.{definition_row}
use Rattle.glk_tasks.specs.Lists.{root_key, AreTasksOf, IsTasksFaultOf, IsListOf, IsOrderFaultOf}
use Rattle.glk_tasks.specs.Tasks.{init_graph}
use Rattle.glk_tasks.proofs.Roots.{root_keys}
use Rattle.glk_tasks.proofs.TaskKeys.{task_key, undefined_relocation}
use Rattle.glk_init_lists.specs.Outputs.{scheduled_of}
use Rattle.glk_init_lists.specs.Refusals.{undefined_refusal, cycle_refusal, IsUndefinedOf, IsCycleOf, IsUndefinedTask, IsTaskCycle}
use Rattle.glk_init_lists.specs.Schedules.{Scheduled, HasDefinedTasks, HasOrder, HasOrders, IsInitListOf, IsScheduleOf, IsScheduled, IsScheduleRefusal}
use Rattle.glk_init_lists.specs.declared.lists.InitLists.{InitLists}
use Rattle.glk_init_lists.proofs.SomeSchedule.{AreWholeOf, whole_none, list_none}

-- Answers of tasks.

of_tasks_fault : (g : InitGraph) (root : Option ℕ) (target : UndefinedTarget) → IsTasksFaultOf g root (fault.Bad target) → IsUndefinedOf g root target
of_tasks_fault g None target is = is
of_tasks_fault g (Some root) target is = is

of_order_fault : (g : InitGraph) (root : Option ℕ) (cycle : InitCycle) → IsOrderFaultOf g root (fault.Bad cycle) → IsCycleOf g root cycle
of_order_fault g None cycle is = is
of_order_fault g (Some root) cycle is = is

whole_tasks : (g : InitGraph) (root : Option ℕ) (tasks : List ℕ) → AreTasksOf g root tasks → AreWholeOf g root
whole_tasks g None tasks are = tt
whole_tasks g (Some root) tasks are = are.whole

undefined_key : (p : Program) (root : Option ℕ) (target : UndefinedTarget) → IsSomeKey p root → IsUndefinedOf (init_graph p) root target → IsKey p target.task
undefined_key p None target key first = absurd first
undefined_key p (Some root) target key first = task_key p root target.task key first.task

undefined_index : (p : Program) (root : Option ℕ) (target : UndefinedTarget) → IsUndefinedOf (init_graph p) root target
    → IfSome (definition_row p target.task) (λ r. target.relocation < length (relocs_of p r))
undefined_index p None target first = absurd first
undefined_index p (Some root) target first =
    let P : ℕ → Type 0 = λ i. IfSome (definition_row p target.task) (λ r. i < length (relocs_of p r)) in
    subst P first.edge.2 (undefined_relocation p target.task first.edge.0 first.edge.1)

cycle_key : (p : Program) (root : Option ℕ) (cycle : InitCycle) → IsSomeKey p root → IsCycleOf (init_graph p) root cycle → IsKey p cycle.task
cycle_key p None cycle key least = absurd least
cycle_key p (Some root) cycle key least = task_key p root cycle.task key least.task

module _ (p : Program) (root : List ℕ) where
  pub tasks_defined : (tasks : List ℕ) → AreTasksOf (init_graph p) (root_key p root) tasks → HasDefinedTasks root p (Ok p)
  tasks_defined tasks are = clear (λ refusal is. whole_none (init_graph p) (root_key p root) is.target (whole_tasks (init_graph p) (root_key p root) tasks are) is.first)

  pub tasks_ordered : (list : List ℕ) → IsInitListOf root p list → HasOrder root p (Ok p)
  tasks_ordered list is = clear (λ refusal found. list_none (init_graph p) (root_key p root) list found.cycle is found.least)

  module _ (target : UndefinedTarget) (is : IsTasksFaultOf (init_graph p) (root_key p root) (fault.Bad target)) where
    first : IsUndefinedOf (init_graph p) (root_key p root) target
    first = of_tasks_fault (init_graph p) (root_key p root) target is

    pub told_task : IsKey p target.task
    told_task = undefined_key p (root_key p root) target (root_keys p root) first

    pub told_relocation : IfSome (definition_row p target.task) (λ r. target.relocation < length (relocs_of p r))
    told_relocation = undefined_index p (root_key p root) target first

    pub undefined_told : (refusal : Cause) → refusal ≡ undefined_refusal p target → HasDefinedTasks root p (Err refusal)
    undefined_told refusal same = finds refusal (record { target = target; first = first; refusal_is = same })

  module _ (cycle : InitCycle) (is : IsOrderFaultOf (init_graph p) (root_key p root) (fault.Bad cycle)) where
    least : IsCycleOf (init_graph p) (root_key p root) cycle
    least = of_order_fault (init_graph p) (root_key p root) cycle is

    pub told_cycle : IsKey p cycle.task
    told_cycle = cycle_key p (root_key p root) cycle (root_keys p root) least

    pub cycle_told : (refusal : Cause) → refusal ≡ cycle_refusal p cycle → HasOrder root p (Err refusal)
    cycle_told refusal same = finds refusal (record { cycle = cycle; least = least; refusal_is = same })

-- How far the steps have come: what is left of the chain answers for the whole.

abbrev pub FromRuntime : Program → Result Scheduled Cause → Type 0
FromRuntime = Then (HasDefinedTasks runtime_init_task) HasOrders

abbrev pub FromRuntimeOrder : Program → Result Scheduled Cause → Type 0
FromRuntimeOrder = Then (HasOrder runtime_init_task) (Gives IsScheduleOf)

module _ (p : Program) where
  abbrev pub Schedules : Result InitLists (Fault Cause) → Type 0
  Schedules r = Answers (IsScheduled p) (scheduled_of p) r

  module _ (main : HasDefinedTasks main_init_task p (Ok p)) where
    pub on_main : (r : Result InitLists (Fault Cause)) → Answers (FromRuntime p) (scheduled_of p) r → Schedules r
    on_main r h = went_on (HasDefinedTasks main_init_task) FromRuntime p (scheduled_of p) p r main h

    module _ (runtime : HasDefinedTasks runtime_init_task p (Ok p)) where
      pub on_runtime : (r : Result InitLists (Fault Cause)) → Answers (HasOrders p) (scheduled_of p) r → Schedules r
      on_runtime r h = on_main r (went_on (HasDefinedTasks runtime_init_task) HasOrders p (scheduled_of p) p r runtime h)

      module _ (main_order : HasOrder main_init_task p (Ok p)) where
        pub on_main_order : (r : Result InitLists (Fault Cause)) → Answers (FromRuntimeOrder p) (scheduled_of p) r → Schedules r
        on_main_order r h = on_runtime r (went_on (HasOrder main_init_task) FromRuntimeOrder p (scheduled_of p) p r main_order h)

        pub on_runtime_order : HasOrder runtime_init_task p (Ok p) → (lists : InitLists) → IsScheduleOf p (scheduled_of p lists) → Schedules (Ok lists)
        on_runtime_order runtime_order lists are =
            on_main_order (Ok lists) (went_on (HasOrder runtime_init_task) (Gives IsScheduleOf) p (scheduled_of p) p (Ok lists) runtime_order (gives (scheduled_of p lists) are))

-- A step that stops, by the name of its root.

module _ (p : Program) (root : List ℕ) (e : Fault Cause) where
  abbrev of_tasks : Vec ℕ Global → Program
  of_tasks tasks = p

  module _ (same : root ≡ main_init_task) where
    pub main_stopped : Answers (HasDefinedTasks root p) of_tasks (Err e) → Schedules p (Err e)
    main_stopped h =
        stopped (HasDefinedTasks main_init_task) FromRuntime p (scheduled_of p) of_tasks e (subst (λ (r : List ℕ). Answers (HasDefinedTasks r p) of_tasks (Err e)) same h)

    pub main_order_stopped : HasDefinedTasks main_init_task p (Ok p) → HasDefinedTasks runtime_init_task p (Ok p) → Answers (HasOrder root p) of_tasks (Err e) → Schedules p (Err e)
    main_order_stopped main runtime h =
        on_runtime p main runtime (Err e)
        (stopped (HasOrder main_init_task) FromRuntimeOrder p (scheduled_of p) of_tasks e (subst (λ (r : List ℕ). Answers (HasOrder r p) of_tasks (Err e)) same h))

  module _ (same : root ≡ runtime_init_task) (main : HasDefinedTasks main_init_task p (Ok p)) where
    pub runtime_stopped : Answers (HasDefinedTasks root p) of_tasks (Err e) → Schedules p (Err e)
    runtime_stopped h =
        on_main p main (Err e) (stopped (HasDefinedTasks runtime_init_task) HasOrders p (scheduled_of p) of_tasks e (subst (λ (r : List ℕ). Answers (HasDefinedTasks r p) of_tasks (Err e)) same h))

    pub runtime_order_stopped : HasDefinedTasks runtime_init_task p (Ok p) → HasOrder main_init_task p (Ok p) → Answers (HasOrder root p) of_tasks (Err e) → Schedules p (Err e)
    runtime_order_stopped runtime main_order h =
        on_main_order p main runtime main_order (Err e)
        (stopped (HasOrder runtime_init_task) (Gives IsScheduleOf) p (scheduled_of p) of_tasks e (subst (λ (r : List ℕ). Answers (HasOrder r p) of_tasks (Err e)) same h))

-- Refusals.

abbrev IsOfLink : Cause → Type 0
IsOfLink refusal = sort_of refusal ≡ of_link

undefined_only : (root : List ℕ) → RefusesOnly IsOfLink (HasDefinedTasks root)
undefined_only root = finds_only IsOfLink (λ p refusal is. subst IsOfLink (sym is.refusal_is) refl)

cycle_only : (root : List ℕ) → RefusesOnly IsOfLink (HasOrder root)
cycle_only root = finds_only IsOfLink (λ p refusal is. subst IsOfLink (sym is.refusal_is) refl)

pub refusals_of_link : IsScheduleRefusal
refusals_of_link =
    then_only IsOfLink (undefined_only main_init_task)
    (then_only IsOfLink (undefined_only runtime_init_task)
    (then_only IsOfLink (cycle_only main_init_task)
    (then_only IsOfLink (cycle_only runtime_init_task) (gives_only IsOfLink))))

-- A schedule is of the program.

pub scheduled_program : (p : Program) (s : Scheduled) → IsScheduled p (Ok s) → p ≡ s.program
scheduled_program p s h =
    let main = then_given p s h in
    let runtime = then_given main.0 s main.2 in
    let main_order = then_given runtime.0 s runtime.2 in
    let runtime_order = then_given main_order.0 s main_order.2 in
    finds_given p main.0 main.1 ∙ finds_given main.0 runtime.0 runtime.1 ∙ finds_given runtime.0 main_order.0 main_order.1
    ∙ finds_given main_order.0 runtime_order.0 runtime_order.1 ∙ sym (gives_given runtime_order.0 s runtime_order.2).program
