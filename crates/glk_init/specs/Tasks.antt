-- The init tasks that are reached from a root, and what they wait for that has no definition.
use Rattle.std.specs.Prelude.{◌≡◌, ◌≤◌, ◌↔◌, ℕ, zero, suc, Bool, true, not, IsTrue, List, Option, Some, None}
use Rattle.std.specs.List.{Contains, filter_map, find}
use Rattle.std.specs.List.Sorted.{IsStrictlyIncreasing}
use Rattle.glk_init.specs.declared.program.InitEdge.{InitEdge}
use Rattle.glk_init.specs.declared.tasks.UndefinedTarget.{UndefinedTarget}
use Rattle.glk_init.specs.Graph.{InitGraph}

-- the symbols that a symbol waits for
abbrev pub awaited : InitGraph → ℕ → List ℕ
awaited g k = filter_map (λ edge. edge.target) (g.edges k)

abbrev pub Awaits : InitGraph → ℕ → ℕ → Type 0
Awaits g k target = Contains (awaited g k) target

-- the symbol is reached from the root along n edges, over symbols with a definition
abbrev pub IsReachedBy : InitGraph → ℕ → ℕ → ℕ → Type 0
IsReachedBy g root zero k = (k ≡ root) × IsTrue (g.defined k)
IsReachedBy g root (suc n) k = (j : ℕ) × IsReachedBy g root n j × Awaits g j k × IsTrue (g.defined k)

-- A task: the root, where it has a definition, and each symbol with a definition for which a task waits.
abbrev pub IsTask : InitGraph → ℕ → ℕ → Type 0
IsTask g root k = (n : ℕ) × IsReachedBy g root n k

-- exactly the tasks, each once, in the order of their keys
pub record AreTasks (g : InitGraph) (root : ℕ) (list : List ℕ) : Type 0 where
  pub rising : IsStrictlyIncreasing list
  pub exact : (k : ℕ) → Contains list k ↔ IsTask g root k

-- What has no definition.

-- a target without a definition
abbrev pub is_undefined_target : InitGraph → Option ℕ → Bool
is_undefined_target g (Some target) = not (g.defined target)
is_undefined_target g None = true

abbrev pub is_undefined : InitGraph → InitEdge → Bool
is_undefined g edge = is_undefined_target g edge.target

-- the first relocation of a symbol whose target has no definition
abbrev pub undefined_edge : InitGraph → ℕ → Option InitEdge
undefined_edge g k = find (is_undefined g) (g.edges k)

-- all that the symbol waits for has a definition
abbrev pub IsWhole : InitGraph → ℕ → Type 0
IsWhole g k = undefined_edge g k ≡ None

-- Of the tasks that wait for what has no definition the one of least load position, and of its relocations the first such.
pub record IsFirstUndefined (g : InitGraph) (root : ℕ) (u : UndefinedTarget) : Type 0 where
  pub task : IsTask g root u.task
  pub edge : (e : InitEdge) × (undefined_edge g u.task ≡ Some e) × (e.relocation ≡ u.relocation)
  pub least : (other : ℕ) → IsTask g root other → (IsWhole g other → ⊥) → g.position u.task ≤ g.position other
