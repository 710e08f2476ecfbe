-- The init tasks of a root that is given by its name, and their init list. A name that no row has is not the root of any task.
use Rattle.std.specs.Prelude.{◌≡◌, ◌<◌, ℕ, List, [], Option, Some, None}
use Rattle.std.specs.List.{All}
use Rattle.glk_base.specs.declared.fault.Fault.{Fault}
use Rattle.glk_init.specs.declared.order.InitCycle.{InitCycle}
use Rattle.glk_init.specs.declared.tasks.UndefinedTarget.{UndefinedTarget}
use Rattle.glk_init.specs.Graph.{InitGraph}
use Rattle.glk_init.specs.Order.{IsInitList, IsOnCycle}
use Rattle.glk_init.specs.Ranks.{IsOrderFault}
use Rattle.glk_init.specs.Reached.{IsTasksFault}
use Rattle.glk_init.specs.Tasks.{AreTasks, IsTask, IsWhole}
use Rattle.glk_keys.specs.Keys.{find_key}
use Rattle.glk_keys.specs.Programs.{Program}
use Rattle.glk_obj.specs.Symbols.{abi0}

-- the key of a root: an init task has ABI0
abbrev pub root_key : Program → List ℕ → Option ℕ
root_key p name = find_key p name abi0

-- Exactly the tasks of a root, each of which is a key, and all that they wait for has a definition.
pub record AreWholeTasks (g : InitGraph) (root : ℕ) (list : List ℕ) : Type 0 where
  pub tasks : AreTasks g root list
  pub keys : All (λ k. k < g.keys) list
  pub whole : (k : ℕ) → IsTask g root k → IsWhole g k

-- the tasks of a root's key
abbrev pub AreTasksOf : InitGraph → Option ℕ → List ℕ → Type 0
AreTasksOf g None tasks = tasks ≡ []
AreTasksOf g (Some root) tasks = AreWholeTasks g root tasks

-- a fault of the search for tasks
abbrev pub IsTasksFaultOf : InitGraph → Option ℕ → Fault UndefinedTarget → Type 0
IsTasksFaultOf g None why = ⊥
IsTasksFaultOf g (Some root) why = IsTasksFault g root why

-- The init list of a root: no task waits for itself, and this is their order without those that have nothing to run.
pub record IsSoundList (g : InitGraph) (root : ℕ) (tasks : List ℕ) : Type 0 where
  pub list : IsInitList g root tasks
  pub no_cycle : (k : ℕ) → IsTask g root k → IsOnCycle g k → ⊥

abbrev pub IsListOf : InitGraph → Option ℕ → List ℕ → Type 0
IsListOf g None list = list ≡ []
IsListOf g (Some root) list = IsSoundList g root list

-- a fault of their order
abbrev pub IsOrderFaultOf : InitGraph → Option ℕ → Fault InitCycle → Type 0
IsOrderFaultOf g None why = ⊥
IsOrderFaultOf g (Some root) why = IsOrderFault g root why
