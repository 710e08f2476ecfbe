-- The edges that have a task at one end, from the last to the first.
use Rattle.std.specs.Prelude.{◌≡◌, ◌<◌, ◌==◌, ◌-◌, ◌^◌, ℕ, zero, suc, List, length, slice_index, slice_index_or, Option, None, Some, if◌then◌else◌}
use Rattle.glk_order.specs.declared.edges.Edge.{Edge}
use Rattle.glk_order.specs.declared.edges.End.{End}
use Rattle.glk_order.specs.declared.edges.End.TheVariants as end

-- what is read past the edges
abbrev pub no_edge : Edge
no_edge = record { task = 0; target = 0 }

abbrev pub edge_at : List Edge → ℕ → Edge
edge_at edges n = slice_index_or edges n no_edge

-- the task at an end of an edge
abbrev pub task_at : End → Edge → ℕ
task_at end.Task edge = edge.task
task_at end.Target edge = edge.target

-- the last of the first n edges that has the task at this end
abbrev pub last_edge : End → List Edge → ℕ → ℕ → Option ℕ
last_edge end edges task zero = None
last_edge end edges task (suc n) =
    if task_at end (edge_at edges n) == task then Some n else last_edge end edges task n

-- how an edge is stored that may be absent
abbrev pub stored_edge : Option ℕ → ℕ
stored_edge None = 2 ^ 32 - 1
stored_edge (Some edge) = edge

-- each task's last edge is stored
abbrev pub AreLasts : End → List Edge → ℕ → List ℕ → Type 0
AreLasts end edges n lasts =
    (task : ℕ) → task < length lasts → slice_index lasts task ≡ stored_edge (last_edge end edges task n)

-- for each of the first n edges the one before it is stored that has the same task
abbrev pub AreBefores : End → List Edge → ℕ → List ℕ → Type 0
AreBefores end edges n befores =
    (edge : ℕ) → edge < n → slice_index befores edge ≡ stored_edge (last_edge end edges (task_at end (edge_at edges edge)) edge)
