-- Init tasks as symbols that keep what they wait for.
use Rattle.std.specs.Prelude.{◌≡◌, ◌≤◌, ◌⊎◌, ℕ, false, List, map, Option, Some, None}
use Rattle.std.specs.List.{All, Contains}
use Rattle.glk_base.specs.declared.fault.Fault.{Fault}
use Rattle.glk_base.specs.declared.fault.Fault.TheVariants as fault
use Rattle.glk_closure.specs.Graph.{Graph, Keeps}
use Rattle.glk_init.specs.declared.tasks.UndefinedTarget.{UndefinedTarget}
use Rattle.glk_init.specs.Graph.{InitGraph}
use Rattle.glk_init.specs.declared.program.InitEdge.{InitEdge}
use Rattle.glk_init.specs.Tasks.{awaited, undefined_edge, IsFirstUndefined, IsWhole}

-- the program of which nothing is kept but a root, and what is waited for
abbrev pub awaited_graph : InitGraph → List ℕ → Graph
awaited_graph g roots = record {
  keys = g.keys;
  roots = roots;
  defined = g.defined;
  flagged = λ k. false;
  reflects = λ k. false;
  effects = λ k. map Keeps (awaited g k);
}

-- a fault of the search for tasks: the first target without a definition; or memory was wanting
abbrev pub IsTasksFault : InitGraph → ℕ → Fault UndefinedTarget → Type 0
IsTasksFault g root (fault.Bad undefined) = IsFirstUndefined g root undefined
IsTasksFault g root fault.OutOfMemory = Unit {0}

-- Of two targets without a definition the one whose task is earlier in load order; the first may be missing.
abbrev pub IsEarlier : InitGraph → Option UndefinedTarget → UndefinedTarget → UndefinedTarget → Type 0
IsEarlier g None second chosen = chosen ≡ second
IsEarlier g (Some first) second chosen =
    ((chosen ≡ first) × (g.position first.task ≤ g.position second.task))
    ⊎ ((chosen ≡ second) × (g.position second.task ≤ g.position first.task))

-- what the first target becomes once a task more is looked at, which may lack a definition
abbrev pub TakesIn : InitGraph → Option UndefinedTarget → ℕ → Option InitEdge → Option UndefinedTarget → Type 0
TakesIn g first task None now = now ≡ first
TakesIn g first task (Some edge) now =
    (chosen : UndefinedTarget) × (now ≡ Some chosen) × IsEarlier g first (record { task = task; relocation = edge.relocation }) chosen

-- the target is the first of the task without a definition
abbrev pub IsUndefinedOf : InitGraph → UndefinedTarget → Type 0
IsUndefinedOf g u = (e : InitEdge) × (undefined_edge g u.task ≡ Some e) × (e.relocation ≡ u.relocation)

-- Of the tasks in a list whose targets do not all have a definition, one of least load position; or all have one.
abbrev pub IsFirstAmong : InitGraph → List ℕ → Option UndefinedTarget → Type 0
IsFirstAmong g list None = All (IsWhole g) list
IsFirstAmong g list (Some u) =
    Contains list u.task × IsUndefinedOf g u
    × ((other : ℕ) → Contains list other → (IsWhole g other → ⊥) → g.position u.task ≤ g.position other)
