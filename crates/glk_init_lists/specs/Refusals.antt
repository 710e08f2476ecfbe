-- The refusals of init order: of a root's tasks the first that waits for what has no definition, and the least that waits for itself.
use Rattle.std.specs.Prelude.{◌≡◌, ℕ, List, [], get_or, Option, Some, None}
use Rattle.glk_cause.specs.declared.cause.Cause.{Cause}
use Rattle.glk_cause.specs.declared.cause.Cause.TheVariants as cause
use Rattle.glk_init.specs.Graph.{InitGraph}
use Rattle.glk_init.specs.Order.{IsLeastOnCycle}
use Rattle.glk_init.specs.Tasks.{IsFirstUndefined}
use Rattle.glk_init.specs.declared.order.InitCycle.{InitCycle}
use Rattle.glk_init.specs.declared.tasks.UndefinedTarget.{UndefinedTarget}
use Rattle.glk_keys.specs.Names.{key_name, target_name}
use Rattle.glk_keys.specs.Programs.{Program}
use Rattle.glk_keys.specs.Relocations.{relocs_of, reloc_target, no_reloc}
use Rattle.glk_keys.specs.Rows.{row_at}
use Rattle.glk_reach.specs.Chosen.{of_definition}
use Rattle.glk_tasks.specs.Lists.{root_key}
use Rattle.glk_tasks.specs.Tasks.{init_graph}

-- the name of what relocation i of row r refers to
abbrev pub reference_name : Program → ℕ → ℕ → List ℕ
reference_name p i r = target_name p (row_at p r).object (reloc_target p r (get_or (relocs_of p r) i no_reloc))

-- the name of what a task waits for
abbrev pub awaited_name : Program → UndefinedTarget → List ℕ
awaited_name p target = of_definition p target.task (reference_name p target.relocation) []

-- the task that waits, and what it waits for
abbrev pub undefined_refusal : Program → UndefinedTarget → Cause
undefined_refusal p target = cause.Undefined (key_name p target.task) (awaited_name p target)

-- the task that waits for itself
abbrev pub cycle_refusal : Program → InitCycle → Cause
cycle_refusal p cycle = cause.InitCycle (key_name p cycle.task)

-- a name that no row has is the root of no task
abbrev pub IsUndefinedOf : InitGraph → Option ℕ → UndefinedTarget → Type 0
IsUndefinedOf g None target = ⊥
IsUndefinedOf g (Some root) target = IsFirstUndefined g root target

abbrev pub IsCycleOf : InitGraph → Option ℕ → InitCycle → Type 0
IsCycleOf g None cycle = ⊥
IsCycleOf g (Some root) cycle = IsLeastOnCycle g root cycle

-- of the tasks of a root, the first that waits for what has no definition is refused
pub record IsUndefinedTask (root : List ℕ) (p : Program) (refusal : Cause) : Type 0 where
  pub target : UndefinedTarget
  pub first : IsUndefinedOf (init_graph p) (root_key p root) target
  pub refusal_is : refusal ≡ undefined_refusal p target

-- of the tasks of a root, the least that waits for itself is refused
pub record IsTaskCycle (root : List ℕ) (p : Program) (refusal : Cause) : Type 0 where
  pub cycle : InitCycle
  pub least : IsCycleOf (init_graph p) (root_key p root) cycle
  pub refusal_is : refusal ≡ cycle_refusal p cycle
