-- Init order as a step of a link: the two init lists of a program, or the first refusal on the way. What has no definition is told
-- of both lists before a cycle is told of either, and of each the main package's first.
use Rattle.std.specs.Prelude.{◌≡◌, ℕ, List, Result}
use Rattle.glk_cause.specs.Chain.{Then, Gives, Finds, IsOne, IsSomeAt}
use Rattle.glk_cause.specs.Sorts.{sort_of, of_link}
use Rattle.std.specs.Prelude.{Err}
use Rattle.glk_cause.specs.declared.cause.Cause.{Cause}
use Rattle.glk_keys.specs.Programs.{Program}
use Rattle.glk_keys.specs.Rows.{main_init_task, runtime_init_task}
use Rattle.glk_tasks.specs.Lists.{root_key, IsListOf}
use Rattle.glk_tasks.specs.Tasks.{init_graph}
use Rattle.glk_init_lists.specs.Refusals.{IsUndefinedTask, IsTaskCycle}

-- a program with its two init lists, of the main package and of the runtime: lists of keys
pub record Scheduled : Type 0 where
  pub program : Program
  pub main : List ℕ
  pub runtime : List ℕ

-- all that the tasks of a root wait for has a definition
abbrev pub HasDefinedTasks : List ℕ → Program → Result Program Cause → Type 0
HasDefinedTasks root = Finds (IsUndefinedTask root)

-- none of the tasks of a root waits for itself
abbrev pub HasOrder : List ℕ → Program → Result Program Cause → Type 0
HasOrder root = Finds (IsTaskCycle root)

-- the init list of a root
abbrev pub IsInitListOf : List ℕ → Program → List ℕ → Type 0
IsInitListOf root p list = IsListOf (init_graph p) (root_key p root) list

pub record IsScheduleOf (p : Program) (s : Scheduled) : Type 0 where
  pub program : s.program ≡ p
  pub main : IsInitListOf main_init_task p s.main
  pub runtime : IsInitListOf runtime_init_task p s.runtime

-- the steps from here on
abbrev pub HasOrders : Program → Result Scheduled Cause → Type 0
HasOrders = Then (HasOrder main_init_task) (Then (HasOrder runtime_init_task) (Gives IsScheduleOf))

abbrev pub IsScheduled : Program → Result Scheduled Cause → Type 0
IsScheduled = Then (HasDefinedTasks main_init_task) (Then (HasDefinedTasks runtime_init_task) HasOrders)

-- Laws that public functions promise: each program has one schedule, or one refusal; and that is of what is linked, of no file.

abbrev pub IsOneSchedule : Type 0
IsOneSchedule = IsOne IsScheduled

abbrev pub IsSomeSchedule : Type 0
IsSomeSchedule = (p : Program) → IsSomeAt IsScheduled p

abbrev pub IsScheduleRefusal : Type 0
IsScheduleRefusal = (p : Program) (refusal : Cause) → IsScheduled p (Err refusal) → sort_of refusal ≡ of_link
