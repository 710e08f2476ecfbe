-- What code finds, as what contracts speak of.
use Rattle.std.specs.Prelude.{ℕ, Option, Some, None, ⊤}
use Rattle.glk_keys.specs.Programs.{Program}
use Rattle.glk_merge.specs.Mergings.{IsDefinitionRow}

-- where there is a row, it is a definition in an object
abbrev pub IsDefinition : Program → Option ℕ → Type 0
IsDefinition p None = ⊤
IsDefinition p (Some r) = IsDefinitionRow p r
