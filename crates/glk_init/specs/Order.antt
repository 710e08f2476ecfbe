-- The order of init tasks: a task comes after those that it waits for, and of the tasks that are ready the least is next.
use Rattle.std.specs.Prelude.{◌≡◌, ◌<◌, ℕ, zero, suc, Bool, IsTrue, nat_lt, List, length, take, slice_index}
use Rattle.std.specs.List.{Contains, filter}
use Rattle.std.specs.Cmp.Lexicographic.{slice_cmp}
use Rattle.std.specs.Ordering.{nat_cmp, ordering_then, is_le}
use Rattle.std.specs.declared.cmp.Ordering.{Ordering}
use Rattle.glk_init.specs.declared.order.InitCycle.{InitCycle}
use Rattle.glk_init.specs.Graph.{InitGraph}
use Rattle.glk_init.specs.Tasks.{Awaits, IsTask}

-- tasks are compared by their names, byte by byte, and then by the load positions of their definitions
abbrev pub task_cmp : InitGraph → ℕ → ℕ → Ordering
task_cmp g a b = ordering_then (slice_cmp nat_cmp (g.name a) (g.name b)) (nat_cmp (g.position a) (g.position b))

-- the one is not after the other
abbrev pub IsNotAfter : InitGraph → ℕ → ℕ → Type 0
IsNotAfter g a b = IsTrue (is_le (task_cmp g a b))

-- The task is ready: it is not one of the earlier ones, and all that it waits for are.
pub record IsReady (g : InitGraph) (root : ℕ) (earlier : List ℕ) (k : ℕ) : Type 0 where
  pub task : IsTask g root k
  pub later : Contains earlier k → ⊥
  pub targets : (target : ℕ) → Awaits g k target → Contains earlier target

-- The task is next: of those that are ready it is the least.
pub record IsNext (g : InitGraph) (root : ℕ) (earlier : List ℕ) (k : ℕ) : Type 0 where
  pub ready : IsReady g root earlier k
  pub least : (other : ℕ) → IsReady g root earlier other → IsNotAfter g k other

-- at each place of the list stands the task that is next after those before it
abbrev pub InOrder : InitGraph → ℕ → List ℕ → Type 0
InOrder g root list = (i : ℕ) → i < length list → IsNext g root (take i list) (slice_index list i)

-- The order of all tasks.
pub record IsOrder (g : InitGraph) (root : ℕ) (list : List ℕ) : Type 0 where
  pub in_order : InOrder g root list
  pub whole : (k : ℕ) → IsTask g root k → Contains list k

-- a task of at most this many bytes has nothing to run
abbrev pub header_size : ℕ
header_size = 8

abbrev pub has_functions : InitGraph → ℕ → Bool
has_functions g k = nat_lt header_size (g.size k)

-- the tasks that the runtime is given: those that have something to run, in order
abbrev pub IsInitList : InitGraph → ℕ → List ℕ → Type 0
IsInitList g root list = (order : List ℕ) × IsOrder g root order × (list ≡ filter (has_functions g) order)

-- Cycles.

-- one symbol waits for another along n + 1 edges
abbrev pub Walk : InitGraph → ℕ → ℕ → ℕ → Type 0
Walk g from to zero = Awaits g from to
Walk g from to (suc n) = (last : ℕ) × Walk g from last n × Awaits g last to

-- the symbol waits for itself, along one or more edges
abbrev pub IsOnCycle : InitGraph → ℕ → Type 0
IsOnCycle g k = (n : ℕ) × Walk g k k n

-- Of the tasks on a cycle the least.
pub record IsLeastOnCycle (g : InitGraph) (root : ℕ) (cycle : InitCycle) : Type 0 where
  pub task : IsTask g root cycle.task
  pub on_cycle : IsOnCycle g cycle.task
  pub least : (other : ℕ) → IsTask g root other → IsOnCycle g other → IsNotAfter g cycle.task other
