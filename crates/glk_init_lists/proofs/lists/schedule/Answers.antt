use Rattle.std.proofs.Common.{◌≡◌, ℕ, List, Ok, refl, subst}
use Rattle.glk_cause.proofs.ChainLaws.{exits}
use Rattle.glk_keys.specs.Programs.{Program}
use Rattle.glk_keys.specs.Rows.{main_init_task, runtime_init_task}
use Rattle.glk_init_lists.specs.Schedules.{HasDefinedTasks, HasOrder, IsInitListOf}
use Rattle.glk_init_lists.specs.declared.lists.InitLists.{InitLists}
use Rattle.glk_init_lists.proofs.Steps.{Schedules, on_runtime_order, main_stopped, runtime_stopped, main_order_stopped, runtime_order_stopped}
use Rattle.glk_init_lists.proofs.lists.schedule.Goals as goal

-- steps by the names of their roots
defined : (p : Program) (root name : List ℕ) → root ≡ name → HasDefinedTasks root p (Ok p) → HasDefinedTasks name p (Ok p)
defined p root name same h = subst (λ (r : List ℕ). HasDefinedTasks r p (Ok p)) same h

ordered : (p : Program) (root name : List ℕ) → root ≡ name → HasOrder root p (Ok p) → HasOrder name p (Ok p)
ordered p root name same h = subst (λ (r : List ℕ). HasOrder r p (Ok p)) same h

listed : (p : Program) (root name list : List ℕ) → root ≡ name → IsInitListOf root p list → IsInitListOf name p list
listed p root name list same h = subst (λ (r : List ℕ). IsInitListOf r p list) same h

pub returns-in_err-main_tasks : goal.returns-in_err-main_tasks
returns-in_err-main_tasks c =
    let p = c.args.merged.now.program in
    let e = c.in_err-main_tasks.field-0.0 in
    let main = c.as_bytes-main_root.result.now in
    let main_is : main ≡ main_init_task = c.as_bytes-main_root.ensures.value in
    exits (Schedules p) c.from_residual.result e c.from_residual.ensures.1 (main_stopped p main e main_is c.in_err-main_tasks.ensures.defined)

pub returns-in_err-runtime_tasks : goal.returns-in_err-runtime_tasks
returns-in_err-runtime_tasks c =
    let p = c.args.merged.now.program in
    let e = c.in_err-runtime_tasks.field-0.0 in
    let main = c.as_bytes-main_root.result.now in
    let main_is : main ≡ main_init_task = c.as_bytes-main_root.ensures.value in
    let runtime = c.as_bytes-runtime_root.result.now in
    let runtime_is : runtime ≡ runtime_init_task = c.as_bytes-runtime_root.ensures.value in
    exits (Schedules p) c.from_residual-in_err-runtime_tasks.result e c.from_residual-in_err-runtime_tasks.ensures.1
    (runtime_stopped p runtime e runtime_is (defined p main main_init_task main_is c.in_ok-main_tasks.ensures.defined) c.in_err-runtime_tasks.ensures.defined)

pub returns-in_err-main : goal.returns-in_err-main
returns-in_err-main c =
    let p = c.args.merged.now.program in
    let e = c.in_err-main.field-0.0 in
    let main = c.as_bytes-main_root.result.now in
    let main_is : main ≡ main_init_task = c.as_bytes-main_root.ensures.value in
    let runtime = c.as_bytes-runtime_root.result.now in
    let runtime_is : runtime ≡ runtime_init_task = c.as_bytes-runtime_root.ensures.value in
    exits (Schedules p) c.from_residual-in_err-main.result e c.from_residual-in_err-main.ensures.1
    (main_order_stopped p main e main_is (defined p main main_init_task main_is c.in_ok-main_tasks.ensures.defined)
    (defined p runtime runtime_init_task runtime_is c.in_ok-runtime_tasks.ensures.defined) c.in_err-main.ensures.order)

pub returns-in_err-runtime : goal.returns-in_err-runtime
returns-in_err-runtime c =
    let p = c.args.merged.now.program in
    let e = c.in_err-runtime.field-0.0 in
    let main = c.as_bytes-main_root.result.now in
    let main_is : main ≡ main_init_task = c.as_bytes-main_root.ensures.value in
    let runtime = c.as_bytes-runtime_root.result.now in
    let runtime_is : runtime ≡ runtime_init_task = c.as_bytes-runtime_root.ensures.value in
    exits (Schedules p) c.from_residual-in_err-runtime.result e c.from_residual-in_err-runtime.ensures.1
    (runtime_order_stopped p runtime e runtime_is (defined p main main_init_task main_is c.in_ok-main_tasks.ensures.defined)
    (defined p runtime runtime_init_task runtime_is c.in_ok-runtime_tasks.ensures.defined)
    (ordered p main main_init_task main_is c.in_ok-main.ensures.order) c.in_err-runtime.ensures.order)

pub returns : goal.returns
returns c =
    let p = c.args.merged.now.program in
    let main = c.as_bytes-main_root.result.now in
    let main_is : main ≡ main_init_task = c.as_bytes-main_root.ensures.value in
    let runtime = c.as_bytes-runtime_root.result.now in
    let runtime_is : runtime ≡ runtime_init_task = c.as_bytes-runtime_root.ensures.value in
    let lists : InitLists = record { main = c.in_ok-main.main; runtime = c.in_ok-runtime.runtime } in
    on_runtime_order p (defined p main main_init_task main_is c.in_ok-main_tasks.ensures.defined)
    (defined p runtime runtime_init_task runtime_is c.in_ok-runtime_tasks.ensures.defined)
    (ordered p main main_init_task main_is c.in_ok-main.ensures.order) (ordered p runtime runtime_init_task runtime_is c.in_ok-runtime.ensures.order) lists
    (record {
      program = refl;
      main = listed p main main_init_task lists.main.items main_is c.in_ok-main.ensures.list;
      runtime = listed p runtime runtime_init_task lists.runtime.items runtime_is c.in_ok-runtime.ensures.list;
    })
