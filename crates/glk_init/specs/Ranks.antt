-- Tasks by rank: their numbers in the order of names and load positions.
use Rattle.std.specs.Prelude.{◌≡◌, ◌<◌, ◌≤◌, ℕ, List, map, length, nat_eq, slice_index, Some}
use Rattle.std.specs.HashMap.{HashMap, get}
use Rattle.std.specs.List.{All, filter_map}
use Rattle.std.specs.List.Sorted.{IsPermutation}
use Rattle.std.specs.Option.{option_map}
use Rattle.glk_base.specs.declared.fault.Fault.{Fault}
use Rattle.glk_base.specs.declared.fault.Fault.TheVariants as fault
use Rattle.glk_order.specs.declared.edges.Edge.{Edge}
use Rattle.glk_order.specs.declared.order.Cycle.{Cycle}
use Rattle.glk_init.specs.declared.order.InitCycle.{InitCycle}
use Rattle.glk_init.specs.declared.ranks.NamedTask.{NamedTask}
use Rattle.glk_init.specs.Graph.{InitGraph}
use Rattle.glk_order.specs.Order.{AreEdgesOf, Needs}
use Rattle.glk_init.specs.Tasks.{Awaits}
use Rattle.glk_init.specs.Order.{IsNotAfter, IsLeastOnCycle}

-- a task as it is compared: it has its name and its load position
pub record IsNamed (g : InitGraph) (task : NamedTask) (k : ℕ) : Type 0 where
  pub key : task.key ≡ k
  pub name : task.name.now ≡ g.name k
  pub position : task.position ≡ g.position k

-- the tasks as they are compared, one after the other
pub record AreNamed (g : InitGraph) (tasks : List ℕ) (named : List NamedTask) : Type 0 where
  pub keys : map (λ task. task.key) named ≡ tasks
  pub each : All (λ task. IsNamed g task task.key) named

-- The tasks by rank: the same ones, none after a later one.
pub record AreRanked (g : InitGraph) (tasks ranked : List ℕ) : Type 0 where
  pub same : IsPermutation tasks ranked
  pub sorted : (i j : ℕ) → i ≤ j → j < length ranked → IsNotAfter g (slice_index ranked i) (slice_index ranked j)

-- the table has the ranks of the first n tasks, and nothing else
pub record IsRankTable (ranked : List ℕ) (n : ℕ) {S : Type 0} (ranks : HashMap ℕ ℕ S) : Type 0 where
  pub sound : (k rank : ℕ) → get nat_eq ranks k ≡ Some rank → (rank < n) × (slice_index ranked rank ≡ k)
  pub whole : (rank : ℕ) → rank < n → get nat_eq ranks (slice_index ranked rank) ≡ Some rank

-- an edge from the task of a rank to a target with a rank
abbrev pub edge_to : ℕ → ℕ → Edge
edge_to rank target = record { task = rank; target = target }

-- the edges from the task of a rank to those of some targets that have ranks
abbrev pub rank_edges : {S : Type 0} → HashMap ℕ ℕ S → ℕ → List ℕ → List Edge
rank_edges ranks rank targets = filter_map (λ target. option_map (edge_to rank) (get nat_eq ranks target)) targets

-- the edges of the tasks with the first n ranks
pub record AreEdgesBelow (g : InitGraph) (ranked : List ℕ) (n : ℕ) (edges : List Edge) : Type 0 where
  pub inside : AreEdgesOf (length ranked) edges
  pub sound : (i j : ℕ) → Needs edges i j → (i < n) × Awaits g (slice_index ranked i) (slice_index ranked j)
  pub whole : (i j : ℕ) → i < n → j < length ranked → Awaits g (slice_index ranked i) (slice_index ranked j) → Needs edges i j

-- The edges between the tasks, by their ranks.
pub record AreRankEdges (g : InitGraph) (ranked : List ℕ) (edges : List Edge) : Type 0 where
  pub inside : AreEdgesOf (length ranked) edges
  pub sound : (i j : ℕ) → Needs edges i j → Awaits g (slice_index ranked i) (slice_index ranked j)
  pub whole : (i j : ℕ) → i < length ranked → j < length ranked → Awaits g (slice_index ranked i) (slice_index ranked j) → Needs edges i j

-- a fault of an order: the least task on a cycle; or memory was wanting
abbrev pub IsOrderFault : InitGraph → ℕ → Fault InitCycle → Type 0
IsOrderFault g root (fault.Bad cycle) = IsLeastOnCycle g root cycle
IsOrderFault g root fault.OutOfMemory = Unit {0}

-- a fault of ranks: a cycle names the rank of a task
abbrev pub IsRankFault : ℕ → Fault Cycle → Type 0
IsRankFault count (fault.Bad cycle) = cycle.least < count
IsRankFault count fault.OutOfMemory = Unit {0}

-- the fault of tasks that it is
abbrev pub fault_of_rank : List ℕ → Fault Cycle → Fault InitCycle
fault_of_rank ranked (fault.Bad cycle) = fault.Bad (record { task = slice_index ranked cycle.least })
fault_of_rank ranked fault.OutOfMemory = fault.OutOfMemory
