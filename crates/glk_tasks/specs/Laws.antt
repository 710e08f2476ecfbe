-- What holds of the init order of every merged program.
use Rattle.std.specs.Prelude.{ℕ, List}
use Rattle.glk_init_laws.specs.Existence.{AreEdgesWithin}
use Rattle.glk_init_laws.specs.Laws.{HaveOwnPositions}
use Rattle.glk_keys.specs.Programs.{Program}
use Rattle.glk_merge.specs.Mergings.{IsSomeKey}
use Rattle.glk_tasks.specs.Lists.{root_key}
use Rattle.glk_tasks.specs.Tasks.{init_graph}

-- no two tasks have their definitions at one load position
abbrev pub HaveTasksOwnPositions : Type 0
HaveTasksOwnPositions = (p : Program) (root : ℕ) → HaveOwnPositions (init_graph p) root

-- what a key waits for is a key
abbrev pub AreAwaitedKeys : Type 0
AreAwaitedKeys = (p : Program) → AreEdgesWithin (init_graph p)

-- a root is a key
abbrev pub AreRootsKeys : Type 0
AreRootsKeys = (p : Program) (name : List ℕ) → IsSomeKey p (root_key p name)
