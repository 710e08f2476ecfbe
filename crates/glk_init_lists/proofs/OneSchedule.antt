-- A program has one schedule, or one refusal on the way to it.
use Rattle.std.proofs.Common.{◌≡◌, ◌∙◌, ℕ, List, Option, Some, None, refl, sym, ap}
use Rattle.glk_cause.specs.declared.cause.Cause.{Cause}
use Rattle.glk_cause.proofs.ChainLaws.{then_one, gives_one, finds_one}
use Rattle.glk_init.specs.declared.order.InitCycle.{InitCycle}
use Rattle.glk_init.specs.declared.tasks.UndefinedTarget.{UndefinedTarget}
use Rattle.glk_init_laws.specs.Laws.{IsUndefinedOne, IsInitListOne, IsCycleOne}
use Rattle.glk_keys.specs.Programs.{Program}
use Rattle.glk_keys.specs.Rows.{main_init_task, runtime_init_task}
use Rattle.glk_tasks.specs.Laws.{HaveTasksOwnPositions}
use Rattle.glk_tasks.specs.Lists.{root_key, IsListOf}
use Rattle.glk_tasks.specs.Tasks.{init_graph}
use Rattle.glk_init_lists.specs.Refusals.{undefined_refusal, cycle_refusal, IsUndefinedOf, IsCycleOf, IsUndefinedTask, IsTaskCycle}
use Rattle.glk_init_lists.specs.Schedules.{Scheduled, IsScheduleOf, IsOneSchedule}

module _ (own : HaveTasksOwnPositions) (undefined : IsUndefinedOne) (cycles : IsCycleOne) (lists : IsInitListOne) where
  module _ (p : Program) where
    same_target : (root : Option ℕ) (a b : UndefinedTarget) → IsUndefinedOf (init_graph p) root a → IsUndefinedOf (init_graph p) root b → a ≡ b
    same_target None a b x y = absurd x
    same_target (Some root) a b x y = undefined (init_graph p) root (own p root) a b x y

    undefined_once : (root : List ℕ) (a b : Cause) → IsUndefinedTask root p a → IsUndefinedTask root p b → a ≡ b
    undefined_once root a b x y =
        x.refusal_is ∙ ap (undefined_refusal p) (same_target (root_key p root) x.target y.target x.first y.first) ∙ sym y.refusal_is

    same_cycle : (root : Option ℕ) (a b : InitCycle) → IsCycleOf (init_graph p) root a → IsCycleOf (init_graph p) root b → a ≡ b
    same_cycle None a b x y = absurd x
    same_cycle (Some root) a b x y = cycles (init_graph p) root (own p root) a b x y

    cycle_once : (root : List ℕ) (a b : Cause) → IsTaskCycle root p a → IsTaskCycle root p b → a ≡ b
    cycle_once root a b x y =
        x.refusal_is ∙ ap (cycle_refusal p) (same_cycle (root_key p root) x.cycle y.cycle x.least y.least) ∙ sym y.refusal_is

    same_list : (root : Option ℕ) (a b : List ℕ) → IsListOf (init_graph p) root a → IsListOf (init_graph p) root b → a ≡ b
    same_list None a b x y = x ∙ sym y
    same_list (Some root) a b x y = lists (init_graph p) root (own p root) a b x.list y.list

    schedule_once : (a b : Scheduled) → IsScheduleOf p a → IsScheduleOf p b → a ≡ b
    schedule_once a b x y =
        ap (λ q. let s : Scheduled = record { program = q; main = a.main; runtime = a.runtime } in s) (x.program ∙ sym y.program)
        ∙ ap (λ l. let s : Scheduled = record { program = b.program; main = l; runtime = a.runtime } in s) (same_list (root_key p main_init_task) a.main b.main x.main y.main)
        ∙ ap (λ l. let s : Scheduled = record { program = b.program; main = b.main; runtime = l } in s) (same_list (root_key p runtime_init_task) a.runtime b.runtime x.runtime y.runtime)

  pub one_schedule : IsOneSchedule
  one_schedule p =
      then_one p (finds_one p (undefined_once p main_init_task)) (λ q main_defined.
      then_one q (finds_one q (undefined_once q runtime_init_task)) (λ r runtime_defined.
      then_one r (finds_one r (cycle_once r main_init_task)) (λ s main_ordered.
      then_one s (finds_one s (cycle_once s runtime_init_task)) (λ t runtime_ordered. gives_one t (schedule_once t)))))
