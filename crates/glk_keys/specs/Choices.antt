-- The chosen definition of a key as the first in an order of its definitions: the strong before the shared, these before the rest, of
-- shared ones and of the rest the larger before the smaller, and else the earlier before the later.
use Rattle.std.specs.Prelude.{◌≡◌, ℕ, ◌<◌, ◌≤◌, ◌^◌, ◌⊎◌, Option, Some, None}
use Rattle.glk_table.specs.Ranks.{IsBefore}
use Rattle.glk_table.specs.declared.ranks.RankClass.{RankClass}
use Rattle.glk_table.specs.declared.ranks.RankClass.TheVariants.{Strong}
use Rattle.glk_keys.specs.Definitions.{size_at}
use Rattle.glk_keys.specs.Keys.{key_id}
use Rattle.glk_keys.specs.Programs.{Program}
use Rattle.glk_keys.specs.Rows.{row_at, row_count}
use Rattle.glk_keys.specs.Votes.{class_of}

-- row r is a definition of key k, of this class
pub record Defines (p : Program) (k r : ℕ) (class : RankClass) : Type 0 where
  pub row : r < row_count p
  pub of_key : key_id p r ≡ k
  pub class_is : class_of (row_at p r) ≡ Some class

-- the definition that is before all others of its key, if there is one
abbrev pub IsChosen : Program → ℕ → Option ℕ → Type 0
IsChosen p k (Some r) =
    (c : RankClass) × Defines p k r c
    × ((q : ℕ) (d : RankClass) → Defines p k q d → (r ≡ q) ⊎ IsBefore c (size_at p r) r d (size_at p q) q)
IsChosen p k None = (q : ℕ) (d : RankClass) → Defines p k q d → ⊥

-- the least, and the greatest, of the strong definitions of a key
pub record IsLeastStrong (p : Program) (k f : ℕ) : Type 0 where
  pub strong : Defines p k f Strong
  pub least : (q : ℕ) → Defines p k q Strong → f ≤ q

pub record IsGreatestStrong (p : Program) (k g : ℕ) : Type 0 where
  pub strong : Defines p k g Strong
  pub greatest : (q : ℕ) → Defines p k q Strong → q ≤ g

-- the size of each symbol has 32 bits
abbrev pub SizesFit : Program → Type 0
SizesFit p = (r : ℕ) → r < row_count p → size_at p r < 2 ^ 32
