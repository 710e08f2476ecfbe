-- The order of tasks: a task comes after its targets, and of the tasks that are ready the least is next.
use Rattle.std.specs.Prelude.{◌≡◌, ◌<◌, ◌≤◌, ℕ, zero, suc, List, length, take, slice_index}
use Rattle.std.specs.List.{All, Contains}
use Rattle.glk_order.specs.declared.edges.Edge.{Edge}

-- both ends of each edge are among the tasks, which are the numbers below count
abbrev pub AreEdgesOf : ℕ → List Edge → Type 0
AreEdgesOf count edges = All (λ edge. (edge.task < count) × (edge.target < count)) edges

-- one of the edges leads from the task to the target
abbrev pub Needs : List Edge → ℕ → ℕ → Type 0
Needs edges task target = Contains edges (record { task = task; target = target })

-- The task is ready: it is not one of the earlier ones, and all its targets are.
pub record IsReady (count : ℕ) (edges : List Edge) (earlier : List ℕ) (task : ℕ) : Type 0 where
  pub inside : task < count
  pub later : Contains earlier task → ⊥
  pub targets : (target : ℕ) → Needs edges task target → Contains earlier target

-- The task is next: it is the least that is ready.
pub record IsNext (count : ℕ) (edges : List Edge) (earlier : List ℕ) (task : ℕ) : Type 0 where
  pub ready : IsReady count edges earlier task
  pub least : (other : ℕ) → IsReady count edges earlier other → task ≤ other

-- at each place of the list stands the task that is next after those before it
abbrev pub InOrder : ℕ → List Edge → List ℕ → Type 0
InOrder count edges list = (i : ℕ) → i < length list → IsNext count edges (take i list) (slice_index list i)

-- The order of all tasks.
pub record IsOrder (count : ℕ) (edges : List Edge) (list : List ℕ) : Type 0 where
  pub in_order : InOrder count edges list
  pub whole : (task : ℕ) → task < count → Contains list task

-- a walk along n + 1 edges from one task to another
abbrev pub Walk : List Edge → ℕ → ℕ → ℕ → Type 0
Walk edges from to zero = Needs edges from to
Walk edges from to (suc n) = (last : ℕ) × Walk edges from last n × Needs edges last to

-- the task reaches the other by one or more edges
abbrev pub Reaches : List Edge → ℕ → ℕ → Type 0
Reaches edges from to = (n : ℕ) × Walk edges from to n

-- the task is on a cycle: it reaches itself
abbrev pub IsOnCycle : List Edge → ℕ → Type 0
IsOnCycle edges task = Reaches edges task task

-- The least task that is on a cycle.
pub record IsLeastOnCycle (edges : List Edge) (task : ℕ) : Type 0 where
  pub on_cycle : IsOnCycle edges task
  pub least : (other : ℕ) → IsOnCycle edges other → task ≤ other

-- the tasks have one order, or none
abbrev pub IsOneOrder : Type 0
IsOneOrder =
    (count : ℕ) (edges : List Edge) (one other : List ℕ) → IsOrder count edges one → IsOrder count edges other
    → one ≡ other
