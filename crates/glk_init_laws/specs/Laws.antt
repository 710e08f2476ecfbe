-- What is one of a root's tasks: their list, the first target without a definition, the order, the least task on a cycle.
use Rattle.std.specs.Prelude.{◌≡◌, ℕ, List}
use Rattle.glk_init.specs.declared.order.InitCycle.{InitCycle}
use Rattle.glk_init.specs.declared.tasks.UndefinedTarget.{UndefinedTarget}
use Rattle.glk_init.specs.Graph.{InitGraph}
use Rattle.glk_init.specs.Order.{IsInitList, IsLeastOnCycle}
use Rattle.glk_init.specs.Tasks.{AreTasks, IsTask, IsFirstUndefined}

-- no two tasks have their definitions at one load position
abbrev pub HaveOwnPositions : InitGraph → ℕ → Type 0
HaveOwnPositions g root = (a b : ℕ) → IsTask g root a → IsTask g root b → g.position a ≡ g.position b → a ≡ b

-- a root has one list of tasks
abbrev pub AreTasksOne : Type 0
AreTasksOne = (g : InitGraph) (root : ℕ) (one other : List ℕ) → AreTasks g root one → AreTasks g root other → one ≡ other

-- one target is the first without a definition
abbrev pub IsUndefinedOne : Type 0
IsUndefinedOne =
    (g : InitGraph) (root : ℕ) → HaveOwnPositions g root → (one other : UndefinedTarget)
    → IsFirstUndefined g root one → IsFirstUndefined g root other → one ≡ other

-- a root has one init list
abbrev pub IsInitListOne : Type 0
IsInitListOne =
    (g : InitGraph) (root : ℕ) → HaveOwnPositions g root → (one other : List ℕ)
    → IsInitList g root one → IsInitList g root other → one ≡ other

-- one task is the least on a cycle
abbrev pub IsCycleOne : Type 0
IsCycleOne =
    (g : InitGraph) (root : ℕ) → HaveOwnPositions g root → (one other : InitCycle)
    → IsLeastOnCycle g root one → IsLeastOnCycle g root other → one ≡ other
