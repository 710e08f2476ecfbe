-- What init order reads of a linked program. Its symbols are keys, the numbers below `keys`.
use Rattle.std.specs.Prelude.{◌<◌, ℕ, Bool, List, Option, Some, None}
use Rattle.glk_init.specs.declared.program.InitEdge.{InitEdge}

-- how many symbols there are, and of each: whether it has a definition, its name, the load position and the
-- size of its definition, and what it waits for, by its INITORDER
-- relocations that have a target, weak and strong, in their order
pub record InitGraph : Type 0 where
  pub keys : ℕ
  pub defined : ℕ → Bool
  pub name : ℕ → List ℕ
  pub position : ℕ → ℕ
  pub size : ℕ → ℕ
  pub edges : ℕ → List InitEdge

-- a target that is there is a key
abbrev pub IsKeyWithin : ℕ → Option ℕ → Type 0
IsKeyWithin keys (Some target) = target < keys
IsKeyWithin keys None = Unit {0}

abbrev pub IsWithin : ℕ → InitEdge → Type 0
IsWithin keys edge = IsKeyWithin keys edge.target
