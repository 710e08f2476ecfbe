-- What there is of a root's tasks: their list, a first target without a definition or none, and an order or a cycle.
use Rattle.std.specs.Prelude.{◌<◌, ◌⊎◌, ℕ, List}
use Rattle.std.specs.List.{All}
use Rattle.glk_init.specs.declared.order.InitCycle.{InitCycle}
use Rattle.glk_init.specs.declared.tasks.UndefinedTarget.{UndefinedTarget}
use Rattle.glk_init.specs.Graph.{InitGraph, IsWithin}
use Rattle.glk_init.specs.Order.{IsInitList, IsLeastOnCycle, IsOnCycle}
use Rattle.glk_init.specs.Tasks.{AreTasks, IsTask, IsFirstUndefined, IsWhole}

-- what is awaited is a key
abbrev pub AreEdgesWithin : InitGraph → Type 0
AreEdgesWithin g = (k : ℕ) → k < g.keys → All (IsWithin g.keys) (g.edges k)

-- all that tasks wait for has a definition
abbrev pub AreWhole : InitGraph → ℕ → Type 0
AreWhole g root = (k : ℕ) → IsTask g root k → IsWhole g k

-- a root has a list of tasks
abbrev pub HasTasks : Type 0
HasTasks = (g : InitGraph) (root : ℕ) → AreEdgesWithin g → root < g.keys → (tasks : List ℕ) × AreTasks g root tasks

-- a target of tasks is the first without a definition, or all have one
abbrev pub HasFirstUndefined : Type 0
HasFirstUndefined =
    (g : InitGraph) (root : ℕ) (tasks : List ℕ) → AreTasks g root tasks
    → ((u : UndefinedTarget) × IsFirstUndefined g root u) ⊎ AreWhole g root

-- an init list, where no task waits for itself
pub record IsAcyclicList (g : InitGraph) (root : ℕ) (list : List ℕ) : Type 0 where
  pub list_is : IsInitList g root list
  pub no_cycle : (k : ℕ) → IsTask g root k → IsOnCycle g k → ⊥

-- a task is the least on a cycle, or there is an init list
abbrev pub HasListOrCycle : Type 0
HasListOrCycle =
    (g : InitGraph) (root : ℕ) (tasks : List ℕ) → AreEdgesWithin g → root < g.keys → AreTasks g root tasks → AreWhole g root
    → ((cycle : InitCycle) × IsLeastOnCycle g root cycle) ⊎ ((list : List ℕ) × IsAcyclicList g root list)
