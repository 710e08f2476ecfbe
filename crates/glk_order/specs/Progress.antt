-- How far a list of tasks has come.
use Rattle.std.specs.Prelude.{◌≡◌, ◌<◌, ◌==◌, ◌&&◌, ◌||◌, ◌-◌, ℕ, Bool, true, false, not, List, length, slice_index, slice_index_or, slice_set}
use Rattle.std.specs.List.{Contains, count_by}
use Rattle.std.specs.BTreeSet.{BTreeSet, contains}
use Rattle.std.specs.Ordering.{nat_cmp}
use Rattle.glk_order.specs.declared.edges.Edge.{Edge}
use Rattle.glk_order.specs.Order.{Needs}

-- the marks tell that the task is listed
abbrev pub is_listed : List Bool → ℕ → Bool
is_listed listed task = slice_index_or listed task false

-- the edge is open: it leads from the task to one that is not listed
abbrev pub is_open : List Bool → ℕ → Edge → Bool
is_open listed task edge = (edge.task == task) && not (is_listed listed edge.target)

-- how many of the edges are open
abbrev pub open_count : List Bool → List Edge → ℕ → ℕ
open_count listed edges task = count_by (is_open listed task) edges

-- The numbers of open edges of each task.
pub record AreOpen (count : ℕ) (edges : List Edge) (listed : List Bool) (open_edges : List ℕ) : Type 0 where
  pub size : length open_edges ≡ count
  pub each : (task : ℕ) → task < count → slice_index open_edges task ≡ open_count listed edges task

-- a task that is listed has no open edge
abbrev pub AreClosed : List Bool → List ℕ → Type 0
AreClosed listed open_edges = (task : ℕ) → is_listed listed task ≡ true → slice_index open_edges task ≡ 0

-- the task is in the set
abbrev pub is_in : BTreeSet ℕ → ℕ → Bool
is_in ready task = contains nat_cmp ready task

-- The set has the tasks that are not listed and have no open edge.
pub record AreReady (count : ℕ) (listed : List Bool) (open_edges : List ℕ) (ready : BTreeSet ℕ) : Type 0 where
  pub inside : (task : ℕ) → is_in ready task ≡ true → task < count
  pub unlisted : (task : ℕ) → is_in ready task ≡ true → is_listed listed task ≡ false
  pub closed : (task : ℕ) → is_in ready task ≡ true → slice_index open_edges task ≡ 0
  pub each : (task : ℕ) → task < count → is_listed listed task ≡ false → slice_index open_edges task ≡ 0 → is_in ready task ≡ true

-- one edge of the task less is open, and the set has the task once none is
pub record ClosesEdge (task : ℕ) (open_before open_now : List ℕ) (before now : BTreeSet ℕ) : Type 0 where
  pub lower : open_now ≡ slice_set open_before task (slice_index open_before task - 1)
  pub others : (other : ℕ) → is_in now other ≡ (is_in before other || ((other == task) && (slice_index open_before task == 1)))

-- the marks are those of the tasks in the list
pub record AreMarks (listed : List Bool) (list : List ℕ) : Type 0 where
  pub marked : (task : ℕ) → Contains list task → is_listed listed task ≡ true
  pub contained : (task : ℕ) → is_listed listed task ≡ true → Contains list task

-- all targets of the task are listed
abbrev pub AreTargetsListed : List Edge → List Bool → ℕ → Type 0
AreTargetsListed edges listed task = (target : ℕ) → Needs edges task target → is_listed listed target ≡ true

-- no task that is not listed has all its targets listed
abbrev pub IsStuck : ℕ → List Edge → List Bool → Type 0
IsStuck count edges listed =
    (task : ℕ) → task < count → is_listed listed task ≡ false → AreTargetsListed edges listed task → ⊥
